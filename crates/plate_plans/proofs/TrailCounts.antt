-- Each trail lies in one component, so the numbers of trails of all components add up to the number of trails.
use Rattle.std.proofs.Common.{arith, ◌≡◌, ◌≢◌, inl, inr, ℕ, ◌+◌, List, [], ◌∷◌, length, refl, sym, subst, ◌∙◌}
use Rattle.std.specs.Prelude.{Contains, All, AllPairs, sum}
use Rattle.std.specs.List.{AllZip}
use Rattle.std.proofs.lemmas.List.Elements.{All-head, All-tail}
use Rattle.std.proofs.lemmas.List.Sums.{sum_by-cons}
use Rattle.nest_base.specs.declared.places.Point.{Point}
use Rattle.nest_base.specs.declared.places.Edge.{Edge}
use Rattle.nest_base.specs.Order.{IsMarkedBefore}
use Rattle.nest_base.specs.Plane.{HalfEdge}
use Rattle.nest_base.specs.Selection.{none, taken, passed}
use Rattle.nest_base.proofs.Lists.{Contains-head, Contains-later, Contains-cases, Contains-none, AllPairs-to_later, AllPairs-rest}
use Rattle.nest_base.proofs.Orders.{IsMarkedBefore-irrefl}
use Rattle.nest_base.proofs.Selections.{same_count}
use Rattle.plate_sides.specs.HalfEdges.{IsHalfEdge}
use Rattle.plate_sides.specs.Components.{IsMark, IsIn, AreMarks}
use Rattle.plate_sides.specs.Cover.{IsTrail, HasTrailsIn}
use Rattle.plate_nesting.proofs.Marks.{one_mark}
use Rattle.plate_plans.specs.Undercutting.{TrailsAreCounted, CountsAddUp}
use Rattle.plate_plans.proofs.Ends.{same_tells}
use Rattle.plate_plans.proofs.Tips.{trail_sides, whole_trail}

-- as many trails as the counts say, component by component
abbrev AreCounts : List Edge → List (List HalfEdge) → List Point → List ℕ → Type 0
AreCounts edges trails marks counts = AllZip (λ mark n. HasTrailsIn edges mark trails n) marks counts

-- where each half-edge lies in the component of some mark vertex
module _ {edges : List Edge} (marked : (s : HalfEdge) → IsHalfEdge edges s → (mark : Point) × IsMark edges mark × IsIn edges mark s) where
  -- a trail lies in the component of its first half-edge
  lies_in : (trail : List HalfEdge) → IsTrail edges trail → (mark : Point) × IsMark edges mark × All (IsIn edges mark) trail
  lies_in [] is = absurd is
  lies_in (s ∷ rest) is =
      let first = Contains-head s rest in
      let at = marked s (trail_sides edges (s ∷ rest) is s first) in
      (at.0, at.1, whole_trail edges at.0 (s ∷ rest) is s first at.2)

  -- and in no other
  lies_in_one : (trail : List HalfEdge) (mark other : Point) → IsTrail edges trail → IsMark edges mark → IsMark edges other →
      All (IsIn edges mark) trail → All (IsIn edges other) trail → mark ≡ other
  lies_in_one [] mark other is is_mark is_other inside inside_too = absurd is
  lies_in_one (s ∷ rest) mark other is is_mark is_other inside inside_too =
      one_mark edges mark other s is_mark is_other (All-head (IsIn edges mark) s rest inside) (All-head (IsIn edges other) s rest inside_too)

  -- one trail more, in the component of its mark vertex
  counted_in : (trail : List HalfEdge) (trails : List (List HalfEdge)) (mark : Point) (n : ℕ) → All (IsIn edges mark) trail →
      HasTrailsIn edges mark trails n → HasTrailsIn edges mark (trail ∷ trails) (n + 1)
  counted_in trail trails mark n inside (own, selected, count) = (trail ∷ own, taken inside selected, omega (arith, count))

  -- and in each other component
  passed_in : (trail : List HalfEdge) (trails : List (List HalfEdge)) (home mark : Point) (n : ℕ) → IsTrail edges trail → IsMark edges home → IsMark edges mark →
      All (IsIn edges home) trail → home ≢ mark → HasTrailsIn edges mark trails n → HasTrailsIn edges mark (trail ∷ trails) n
  passed_in trail trails home mark n is is_home is_mark inside apart (own, selected, count) =
      (own, passed (λ too. apart (lies_in_one trail home mark is is_home is_mark inside too)) selected, count)

  pub trails_counted : (trails : List (List HalfEdge)) → All (IsTrail edges) trails → (mark : Point) → IsMark edges mark → (n : ℕ) × HasTrailsIn edges mark trails n
  trails_counted [] are mark is_mark = (0, ([], none, refl))
  trails_counted (trail ∷ trails) are mark is_mark =
      let is = All-head (IsTrail edges) trail trails are in
      let home = lies_in trail is in
      let later = trails_counted trails (All-tail (IsTrail edges) trail trails are) mark is_mark in
      elim (same_tells home.0 mark) [
        | inl here ↦ (later.0 + 1, counted_in trail trails mark later.0 (subst (λ p. All (IsIn edges p) trail) here.0 home.2) later.1)
        | inr elsewhere ↦ (later.0, passed_in trail trails home.0 mark later.0 is home.1 is_mark home.2 elsewhere.0 later.1)
      ]

  module _ (trail : List HalfEdge) (trails : List (List HalfEdge)) (is : IsTrail edges trail) (home : Point) (is_home : IsMark edges home) (inside : All (IsIn edges home) trail) where
    -- where its component isn't among these, the counts stay
    counts_stay : (marks : List Point) (counts : List ℕ) → ((mark : Point) → Contains marks mark → IsMark edges mark × (home ≢ mark)) →
        AreCounts edges trails marks counts → AreCounts edges (trail ∷ trails) marks counts
    counts_stay [] [] apart are = tt
    counts_stay [] (n ∷ counts) apart are = absurd are
    counts_stay (mark ∷ marks) [] apart are = absurd are
    counts_stay (mark ∷ marks) (n ∷ counts) apart are =
        let first = apart mark (Contains-head mark marks) in (
          passed_in trail trails home mark n is is_home first.0 inside first.1 are.0,
          counts_stay marks counts (λ other c. apart other (Contains-later mark other marks c)) are.1,
        )

    -- and where it is among them, one of them is one more
    one_count_more : (marks : List Point) (counts : List ℕ) → AllPairs IsMarkedBefore marks → ((mark : Point) → Contains marks mark → IsMark edges mark) →
        Contains marks home → AreCounts edges trails marks counts →
        (more : List ℕ) × AreCounts edges (trail ∷ trails) marks more × (sum more ≡ sum counts + 1)
    one_count_more [] counts ordered are_marks at are = absurd (Contains-none home at)
    one_count_more (mark ∷ marks) [] ordered are_marks at are = absurd are
    one_count_more (mark ∷ marks) (n ∷ counts) ordered are_marks at are = elim (Contains-cases mark home marks at) [
      | inl here ↦
          let apart : (other : Point) → Contains marks other → IsMark edges other × (home ≢ other) = λ other c. (
            are_marks other (Contains-later mark other marks c),
            λ e. IsMarkedBefore-irrefl mark other (AllPairs-to_later IsMarkedBefore mark other marks ordered c) (here ∙ e),
          ) in (
            (n + 1) ∷ counts,
            (
              counted_in trail trails mark n (subst (λ p. All (IsIn edges p) trail) (sym here) inside) are.0,
              counts_stay marks counts apart are.1,
            ),
            omega (arith, sum_by-cons (λ (x : ℕ). x) (n + 1) counts, sum_by-cons (λ (x : ℕ). x) n counts),
          )
      | inr further ↦
          let later = one_count_more marks counts (AllPairs-rest IsMarkedBefore mark marks ordered) (λ other c. are_marks other (Contains-later mark other marks c)) further are.1 in
          let apart : home ≢ mark = λ e. IsMarkedBefore-irrefl mark home (AllPairs-to_later IsMarkedBefore mark home marks ordered further) (sym e) in (
            n ∷ later.0,
            (passed_in trail trails home mark n is is_home (are_marks mark (Contains-head mark marks)) inside apart are.0, later.1),
            omega (arith, sum_by-cons (λ (x : ℕ). x) n later.0, sum_by-cons (λ (x : ℕ). x) n counts, later.2),
          )
    ]

  module _ {marks : List Point} (are_marks : AreMarks edges marks) where
    none_counted : (some : List Point) → (counts : List ℕ) × AreCounts edges [] some counts × (sum counts ≡ 0)
    none_counted [] = ([], tt, refl)
    none_counted (mark ∷ some) =
        let rest = none_counted some in
        (0 ∷ rest.0, (([], none, refl), rest.1), omega (arith, sum_by-cons (λ (x : ℕ). x) 0 rest.0, rest.2))

    -- trail by trail
    pub all_counted : (trails : List (List HalfEdge)) → All (IsTrail edges) trails → (counts : List ℕ) × AreCounts edges trails marks counts × (sum counts ≡ length trails)
    all_counted [] are = none_counted marks
    all_counted (trail ∷ trails) are =
        let is = All-head (IsTrail edges) trail trails are in
        let home = lies_in trail is in
        let so_far = all_counted trails (All-tail (IsTrail edges) trail trails are) in
        let more = one_count_more trail trails is home.0 home.1 home.2 marks so_far.0 are_marks.in_order (λ mark c. (are_marks.are_all mark).0 c)
        ((are_marks.are_all home.0).1 home.1) so_far.1 in
        (more.0, more.1, omega (arith, more.2, so_far.2))

    -- a component has one number of trails
    one_sum : (trails : List (List HalfEdge)) (some : List Point) (ms ns : List ℕ) → AreCounts edges trails some ms → AreCounts edges trails some ns → sum ms ≡ sum ns
    one_sum trails [] [] [] are are_too = refl
    one_sum trails [] (m ∷ ms) ns are are_too = absurd are
    one_sum trails [] [] (n ∷ ns) are are_too = absurd are_too
    one_sum trails (mark ∷ some) [] ns are are_too = absurd are
    one_sum trails (mark ∷ some) (m ∷ ms) [] are are_too = absurd are_too
    one_sum trails (mark ∷ some) (m ∷ ms) (n ∷ ns) are are_too =
        omega (
          arith,
          same_count (All (IsIn edges mark)) trails m n are.0 are_too.0,
          one_sum trails some ms ns are.1 are_too.1,
          sum_by-cons (λ (x : ℕ). x) m ms,
          sum_by-cons (λ (x : ℕ). x) n ns,
        )

    pub counts_sum : (trails : List (List HalfEdge)) (counts : List ℕ) → All (IsTrail edges) trails → AreCounts edges trails marks counts → sum counts ≡ length trails
    counts_sum trails counts are is =
        let all = all_counted trails are in
        omega (arith, all.2, one_sum trails marks counts all.0 is all.1)

pub trails_are_counted : TrailsAreCounted
trails_are_counted edges trails round are mark is = trails_counted round.marked trails are mark is

pub counts_add_up : CountsAddUp
counts_add_up edges trails round are marks counts are_marks is = counts_sum round.marked are_marks trails counts are is
