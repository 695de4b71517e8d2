-- Where no vertex is odd each component has the bound 1 and the limit 1: it takes one pierce, and the report says that these are the fewest.
use Rattle.std.proofs.Common.{arith, ◌≡◌, ℕ, List, [], ◌∷◌, ◌++◌, append_assoc, length, map, codes, refl, sym, ap, subst, ◌∙◌}
use Rattle.std.specs.Prelude.{Contains, Option, flat_map, if◌then◌else◌}
use Rattle.std.specs.Fmt.{decimal}
use Rattle.std.specs.List.{AllZip}
use Rattle.std.proofs.lemmas.Bool.{eq-eqb}
use Rattle.std.proofs.lemmas.List.Sums.{sum_by-cons}
use Rattle.nest_base.specs.declared.places.Point.{Point}
use Rattle.nest_base.specs.declared.places.Segment.{Segment}
use Rattle.nest_base.specs.declared.places.Edge.{Edge}
use Rattle.nest_base.specs.declared.drawing.Name.{Name}
use Rattle.nest_base.specs.Plane.{HalfEdge}
use Rattle.nest_base.proofs.Lists.{Contains-head, Contains-later}
use Rattle.plate_edges.specs.Edges.{AreEdgesOf}
use Rattle.plate_sides.specs.Components.{IsMark}
use Rattle.plate_sides.specs.Cover.{HasTrailsIn}
use Rattle.plate_sides.specs.Odd.{AreOddVertices}
use Rattle.plate_sides.specs.Limit.{IsLimit, no_odd as no_odd_limit, outer_odd, inner_odd}
use Rattle.plate_sides.specs.Bound.{IsBound, no_odd, some_odd}
use Rattle.pierce_report.specs.Report.{Row, PartRow, IsRowOf, rows_text, part_text, total_pierces, total_bound, report_text}
use Rattle.code_moves.specs.CodeText.{code_text}
use Rattle.code_moves.specs.Meaning.{moves_of}
use Rattle.plate_sides.specs.Paths.{paths_of}
use Rattle.sound_code.specs.Lightings.{HasPierces, starts_of, lighting_trails}
use Rattle.nest_commands.specs.Promise.{IsOrderEnclosingPlan, AreEven, SaysFewest, IsFewestWhereEven}
use Rattle.nest_commands.proofs.Promises.{IsReportedPlan, code, lightings, own_text, row_at, pierces, promise_is_kept}

module _ {edges : List Edge} (even : AreEven edges) (mark : Point) where
  none_odd : (odd : List Point) → AreOddVertices edges mark odd → length odd ≡ 0
  none_odd [] are = refl
  none_odd (v ∷ odd) are = absurd (even v ((are.are_all v).0 (Contains-head v odd)).1)

  bound_is_1 : (n : ℕ) → IsBound edges mark n → n ≡ 1
  bound_is_1 n (no_odd are is) = is
  bound_is_1 n (some_odd {odd} are some is) = absurd (omega (arith, some, none_odd odd are))

  limit_is_1 : (n : ℕ) → IsLimit edges mark n → n ≡ 1
  limit_is_1 n (no_odd_limit are is) = is
  limit_is_1 n (outer_odd are (v, stands, outer) is) = absurd (even v ((are.are_all v).0 stands).1)
  limit_is_1 n (inner_odd {odd} are some inner is) = absurd (omega (arith, some, none_odd odd are))

-- the last line, where pierces and bounds are as many
fewest_last : (lines parts a p b q : List ℕ) → (lines ++ parts ++ a ++ p ++ b ++ q) ++ codes "\nfewest\n" ≡ lines ++ parts ++ a ++ p ++ b ++ q ++ 10 ∷ [] ++ codes "fewest" ++ 10 ∷ []
fewest_last lines parts a p b q = simp append_assoc

says_fewest : (rows : List Row) (names : List PartRow) → total_pierces rows ≡ total_bound rows → SaysFewest (report_text rows names)
says_fewest rows names same =
    let lines = rows_text 1 rows in
    let parts = flat_map part_text names in
    let pierces = decimal (total_pierces rows) in
    let bound = decimal (total_bound rows) in (
      lines ++ parts ++ codes "total pierces " ++ pierces ++ codes " bound " ++ bound,
      ap (λ b. lines ++ parts ++ codes "total pierces " ++ pierces ++ codes " bound " ++ bound ++ 10 ∷ [] ++ (if b then codes "fewest" else codes "not shown fewest") ++ 10 ∷ [])
          (eq-eqb (total_pierces rows) (total_bound rows) same) ∙ sym (fewest_last lines parts (codes "total pierces ") pierces (codes " bound ") bound),
    )

-- code and a report that keep the promise, and say more where no vertex is odd; the code is the text of its own lightings
pub record IsKeptWhereEven (segments : List Segment) (names : List Name) (code report : List ℕ) : Type 0 where
  pub promise : IsOrderEnclosingPlan segments names (moves_of code) report
  pub even : IsFewestWhereEven promise.edges promise.lightings report
  pub is_text : code ≡ code_text (paths_of (starts_of promise.lightings) (lighting_trails promise.lightings))

module _ {edges : List Edge} {names : List Name} {trails : List (List HalfEdge)} {leads : List (Option Point)} {report : List ℕ}
    (r : IsReportedPlan edges names trails leads report) where
  abbrev IsRow : Point → Row → Type 0
  IsRow mark row = IsRowOf edges mark row × HasTrailsIn edges mark trails row.pierces

  one_pierce : AreEven edges → (mark : Point) (row : Row) → IsMark edges mark → IsRow mark row → row.pierces ≡ 1
  one_pierce even mark row is (is_row, has) =
      omega (
        arith,
        bound_is_1 even mark row.bound is_row.has_bound,
        limit_is_1 even mark row.limit is_row.has_limit,
        r.plan.within_limit mark is row.pierces row.limit has is_row.has_limit,
        r.plan.none_undercuts mark is row.bound is_row.has_bound trails row.pierces r.plan.covers.is_cover has,
      )

  as_many_in_all : AreEven edges → (marks : List Point) (rows : List Row) → ((mark : Point) → Contains marks mark → IsMark edges mark) →
      AllZip IsRow marks rows → total_pierces rows ≡ total_bound rows
  as_many_in_all even [] [] are_marks zip = refl
  as_many_in_all even [] (row ∷ rows) are_marks zip = absurd zip
  as_many_in_all even (mark ∷ marks) [] are_marks zip = absurd zip
  as_many_in_all even (mark ∷ marks) (row ∷ rows) are_marks zip =
      omega (
        arith,
        one_pierce even mark row (are_marks mark (Contains-head mark marks)) zip.0,
        bound_is_1 even mark row.bound zip.0.0.has_bound,
        as_many_in_all even marks rows (λ other c. are_marks other (Contains-later mark other marks c)) zip.1,
        sum_by-cons (λ (n : ℕ). n) row.pierces (map (λ (r : Row). r.pierces) rows),
        sum_by-cons (λ (n : ℕ). n) row.bound (map (λ (r : Row). r.bound) rows),
      )

  fewest_where_even : IsFewestWhereEven edges (lightings r) report
  fewest_where_even even =
      let reported = r.reported in (
        λ mark is.
            let (row, is_row) = row_at IsRow mark reported.marks reported.rows reported.are_rows ((reported.are_marks.are_all mark).1 is) in
            subst (HasPierces edges (lightings r) mark) (one_pierce even mark row is is_row) (pierces r mark row.pierces is_row.1),
        subst SaysFewest (sym reported.is_text)
            (says_fewest reported.rows reported.parts (as_many_in_all even reported.marks reported.rows (λ mark c. (reported.are_marks.are_all mark).0 c) reported.are_rows)),
      )

  -- the promise that the plan keeps, and what it comes to where no vertex is odd
  pub kept_where_even : (segments : List Segment) → AreEdgesOf segments edges → IsKeptWhereEven segments names (code r) report
  unfolding promise_is_kept
  kept_where_even segments are_edges = record { promise = promise_is_kept r segments are_edges; even = fewest_where_even; is_text = own_text r }
