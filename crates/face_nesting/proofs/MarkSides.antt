-- The mark side: the half-edge before the first one, counterclockwise from west.
use Rattle.std.proofs.Common.{arith, ◌≡◌, ℕ, zero, suc, List, Some, slice_get, refl, sym, subst, ◌∙◌}
use Rattle.std.specs.Prelude.{All}
use Rattle.std.proofs.lemmas.Int.{ints}
use Rattle.nest_base.specs.declared.places.Point.{Point}
use Rattle.nest_base.specs.declared.places.Edge.{Edge}
use Rattle.nest_base.specs.Plane.{HalfEdge, heading}
use Rattle.nest_base.specs.Order.{IsBefore}
use Rattle.nest_base.specs.Turn.{IsInsideAngle, west}
use Rattle.nest_base.specs.Angles.{IsDirection, IsBeforeByAngle, within, before_west, past_west}
use Rattle.nest_base.proofs.Angles.{inside-between, angle_cmp-less}
use Rattle.plate_sides.specs.HalfEdges.{IsHalfEdge, Leaves, IsNextCw}
use Rattle.plate_sides.specs.Components.{IsMark, AreMarks}
use Rattle.plate_sides.specs.Links.{IsMarkSide}
use Rattle.half_edges.specs.Numbers.{IsSide}
use Rattle.half_edges.specs.Rotations.{IsBeforeRound, IsRotation}
use Rattle.half_edges.proofs.OneWay.{heading_is_direction}
use Rattle.half_edges.proofs.Rounds.{IsBeforeFromWest-asym}
use Rattle.nest_base.proofs.ListReads.{one_read, Contains-from_read, read_from_Contains, AllPairs-reads}
use Rattle.face_nesting.specs.Sights.{IsMarkSideOf}

-- no direction comes before west
not_before_west : (a : Point) → IsDirection a → IsBeforeByAngle a west → ⊥
not_before_west a is_a less = ((angle_cmp-less a west is_a (λ same. omega (arith, ints, same.0))).0 less).0 (refl, record { lt = tt })

module _ (edges : List Edge) (ordered : All (λ (e : Edge). IsBefore e.low e.high) edges) (v : Point) (cycle : List HalfEdge) (is_cycle : IsRotation edges v cycle)
    (first : HalfEdge) (at_first : slice_get cycle 0 ≡ Some first) where
  direction_of : (h : HalfEdge) → IsHalfEdge edges h → IsDirection (heading h)
  direction_of h is = heading_is_direction edges h ordered is

  first_leaves : Leaves edges v first
  first_leaves = (is_cycle.are_all first).0 (Contains-from_read cycle 0 first at_first)

  -- nothing comes before the first
  none_before_first : (m : HalfEdge) → Leaves edges v m → IsBeforeByAngle (heading m) (heading first) → ⊥
  none_before_first m leaves less =
      let before = (angle_cmp-less (heading m) (heading first) (direction_of m leaves.0) (direction_of first first_leaves.0)).0 less in
      let stands = read_from_Contains cycle m ((is_cycle.are_all m).1 leaves) in
      at_place stands.0 stands.1 before
    where
      at_place : (k : ℕ) → slice_get cycle k ≡ Some m → IsBeforeRound m first → ⊥
      at_place zero at before =
          let loop = subst (λ (h : HalfEdge). IsBeforeRound h first) (one_read cycle 0 m first at at_first) before in
          IsBeforeFromWest-asym _ _ loop loop
      at_place (suc k) at before = IsBeforeFromWest-asym _ _ before (AllPairs-reads IsBeforeRound cycle 0 (suc k) first m is_cycle.in_order (omega arith) at_first at)

  -- clockwise before the first comes the last: none is met between it and west
  pub last_before_west : (m : HalfEdge) → IsNextCw edges first m → (d : HalfEdge) → Leaves edges m.from d → IsInsideAngle (heading m) (heading d) west → ⊥
  last_before_west m next d leaves inside =
      let at_m : m.from ≡ v = sym next.other.1 ∙ first_leaves.1 in
      let is_m = direction_of m next.one in
      let is_d = direction_of d leaves.0 in
      elim ((inside-between (heading m) (heading d) west is_m is_d (λ same. omega (arith, ints, same.0))).0 inside) [
        | within whole behind before ↦ not_before_west (heading m) is_m whole
        | past_west over before ↦ not_before_west (heading d) is_d before
        | before_west over behind ↦ next.none_between d leaves ((inside-between (heading m) (heading d) (heading first) is_m is_d (direction_of first first_leaves.0)).1
            (before_west (none_before_first m (next.one, at_m)) behind))
      ]

  pub is_mark_side : IsMark edges v → (m : HalfEdge) → IsNextCw edges first m → IsMarkSide edges m × (m.from ≡ v)
  is_mark_side mark m next =
      let at_m : m.from ≡ v = sym next.other.1 ∙ first_leaves.1 in
      (record { is_side = next.one; mark = subst (IsMark edges) (sym at_m) mark; last = last_before_west m next }, at_m)

-- so its number is that of the mark side
pub mark_side_found : (edges : List Edge) → All (λ (e : Edge). IsBefore e.low e.high) edges → {marks : List Point} → AreMarks edges marks →
    (c : ℕ) (mark : Point) → slice_get marks c ≡ Some mark → (cycle : List HalfEdge) → IsRotation edges mark cycle →
    (first : HalfEdge) → slice_get cycle 0 ≡ Some first → (s : ℕ) → (m : HalfEdge) × IsSide edges s m × IsNextCw edges first m → IsMarkSideOf edges mark s
mark_side_found edges ordered {marks = marks} are_marks c mark at_c cycle is_cycle first at_first s (m, is, next) =
    let side = is_mark_side edges ordered mark cycle is_cycle first at_first ((are_marks.are_all mark).0 (Contains-from_read marks c mark at_c)) m next in
    (m, is, side.0, side.1)
