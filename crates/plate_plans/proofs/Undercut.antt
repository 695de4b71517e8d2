-- No cover has fewer trails in a component than half its odd vertices, and each has at least one there.
use Rattle.std.proofs.Common.{arith, ◌≡◌, ℕ, ◌/◌, ◌≤◌, List, [], ◌∷◌, length, inl, inr, sym, subst}
use Rattle.std.specs.Prelude.{Contains, All, AllPairs, ◌≢◌, sum}
use Rattle.std.specs.List.{AllZip}
use Rattle.std.proofs.lemmas.List.Elements.{All-contains, Contains-append_cases}
use Rattle.std.proofs.lemmas.List.Sums.{sum_by-cons}
use Rattle.nest_base.specs.declared.places.Point.{Point}
use Rattle.nest_base.specs.declared.places.Edge.{Edge}
use Rattle.nest_base.specs.Order.{IsBefore}
use Rattle.nest_base.specs.Plane.{HalfEdge}
use Rattle.nest_base.specs.Selection.{Selects, HasCount}
use Rattle.nest_base.specs.Walks.{here}
use Rattle.nest_base.proofs.Fewer.{fewer}
use Rattle.nest_base.proofs.Lists.{Contains-head, Contains-later, Contains-none}
use Rattle.nest_base.proofs.Selections.{Selects-contains, Selects-origin}
use Rattle.plate_sides.specs.HalfEdges.{IsHalfEdge, IsHalfEdgeOf}
use Rattle.plate_sides.specs.Components.{IsMark, IsIn, SameComponent}
use Rattle.plate_sides.proofs.Components.{edge_is_in}
use Rattle.plate_sides.specs.Odd.{IsOdd, AreOddVertices}
use Rattle.plate_sides.specs.Cover.{IsTrail, IsCover, joined, HasTrailsIn}
use Rattle.plate_sides.specs.Bound.{IsBound, no_odd, some_odd}
use Rattle.plate_plans.specs.Undercutting.{NoneUndercuts, NoneUndercutsSum}
use Rattle.plate_plans.proofs.Ends.{edge_ends, ends, degree_is, ends_of_cover}
use Rattle.plate_plans.proofs.TrailCounts.{all_counted}
use Rattle.plate_plans.proofs.Tips.{tips_of, tip_in, tips_contain, tips_few, odd_trails, trail_sides, whole_trail}

-- where one is counted, there is one
found : {X : Type 0} (P : X → Type 0) (xs : List X) → HasCount P xs 1 → (x : X) × Contains xs x × P x
found {X} P xs ([], selected, long) = absurd (omega (arith, long))
found {X} P xs (y ∷ ys, selected, long) = let is = Selects-origin P selected y (Contains-head y ys) in (y, is.0, is.1)

-- what stands among all stands in a trail
in_trail : (trails : List (List HalfEdge)) (h : HalfEdge) → Contains (joined trails) h → (trail : List HalfEdge) × Contains trails trail × Contains trail h
in_trail [] h c = absurd (Contains-none h c)
in_trail (first ∷ trails) h c = elim (Contains-append_cases first (joined trails) h c) [
  | inl early ↦ (first, Contains-head first trails, early)
  | inr late ↦ let r = in_trail trails h late in (r.0, Contains-later first r.0 trails r.1, r.2)
]

module _ {edges : List Edge} {trails : List (List HalfEdge)} (cover : IsCover edges trails) where
  is_trail : (trail : List HalfEdge) → Contains trails trail → IsTrail edges trail
  is_trail trail c = All-contains (IsTrail edges) trails trail cover.are_trails c

  on_edges : (h : HalfEdge) → Contains (joined trails) h → IsHalfEdge edges h
  on_edges h c = let at = in_trail trails h c in trail_sides edges at.0 (is_trail at.0 at.1) h at.2

  -- a component has an edge, and some trail burns it
  at_least_one : (mark : Point) (n : ℕ) → IsMark edges mark → HasTrailsIn edges mark trails n → 1 ≤ n
  at_least_one mark n is (own, selected, count) =
      let h = is.vertex.0 in
      let side = is.vertex.1.0 in
      let e : Edge = side.0 in
      let inside : IsIn edges mark h = (side, subst (λ u. SameComponent edges u mark) (sym is.vertex.1.1) here) in
      let k = found (IsHalfEdgeOf e) (joined trails) (cover.each_once e side.1) in
      let at = in_trail trails k.0 k.1 in
      let k_inside : IsIn edges mark k.0 = edge_is_in edges mark e h k.0 side.2 k.2 inside in
      let among = Selects-contains (All (IsIn edges mark)) selected at.0 at.1 (whole_trail edges mark at.0 (is_trail at.0 at.1) k.0 at.2 k_inside) in
      omega (arith, among.1, count)

  module _ (in_order : All (λ (e : Edge). IsBefore e.low e.high) edges) (once : AllPairs (λ e f. e ≢ f) edges) where
    -- an odd vertex is a tip of some trail of its component
    odd_is_tip : (mark v : Point) (own : List (List HalfEdge)) → Selects (All (IsIn edges mark)) trails own → SameComponent edges v mark → IsOdd edges v →
        Contains (tips_of own) v
    odd_is_tip mark v own selected at (n, (there, ends_there, count), odd) =
        let degree : length there ≡ edge_ends v edges = degree_is v in_order ends_there in
        let sum : ends v (joined trails) ≡ edge_ends v edges = ends_of_cover v edges (joined trails) in_order once on_edges cover.each_once in
        let tip = odd_trails edges v trails cover.are_trails (omega (arith, degree, sum, count, odd)) in
        let inside : All (IsIn edges mark) tip.0 = tip_in edges mark v tip.0 (is_trail tip.0 tip.1) at tip.2 in
        tips_contain own tip.0 v (Selects-contains (All (IsIn edges mark)) selected tip.0 tip.1 inside) tip.2

    half_at_least : (mark : Point) (odd : List Point) (n : ℕ) → AreOddVertices edges mark odd → HasTrailsIn edges mark trails n → length odd / 2 ≤ n
    half_at_least mark odd n are_odd (own, selected, count) =
        let few : length odd ≤ length (tips_of own) = fewer odd (tips_of own) are_odd.each_once
        (λ v c. let is = (are_odd.are_all v).0 c in odd_is_tip mark v own selected is.0 is.1) in
        omega (arith, few, tips_few own, count)

pub none_undercuts : NoneUndercuts
none_undercuts edges in_order once mark is bound (no_odd odd e) trails n cover has = omega (arith, at_least_one cover mark n is has, e)
none_undercuts edges in_order once mark is bound (some_odd {odd} are_odd some e) trails n cover has =
    omega (arith, half_at_least cover in_order once mark odd n are_odd has, e)

-- component by component
pub none_undercuts_sum : NoneUndercutsSum
none_undercuts_sum edges in_order once round marks bounds are_marks are_bounds trails cover =
    let counted = all_counted round.marked are_marks trails cover.are_trails in
    omega (arith, add_up marks bounds counted.0 (λ mark c. (are_marks.are_all mark).0 c) are_bounds counted.1, counted.2)
  where
    add_up : (marks : List Point) (bounds counts : List ℕ) → ((mark : Point) → Contains marks mark → IsMark edges mark) →
        AllZip (IsBound edges) marks bounds → AllZip (λ mark n. HasTrailsIn edges mark trails n) marks counts → sum bounds ≤ sum counts
    add_up [] [] [] are bound count = omega arith
    add_up [] [] (n ∷ counts) are bound count = absurd count
    add_up [] (b ∷ bounds) counts are bound count = absurd bound
    add_up (mark ∷ marks) [] counts are bound count = absurd bound
    add_up (mark ∷ marks) (b ∷ bounds) [] are bound count = absurd count
    add_up (mark ∷ marks) (b ∷ bounds) (n ∷ counts) are bound count =
        let first = none_undercuts edges in_order once mark (are mark (Contains-head mark marks)) b bound.0 trails n cover count.0 in
        let later = add_up marks bounds counts (λ k c. are k (Contains-later mark k marks c)) bound.1 count.1 in
        omega (arith, sum_by-cons (λ (x : ℕ). x) b bounds, sum_by-cons (λ (x : ℕ). x) n counts, first, later)
