-- Where the cover of a component may start, by number.
use Rattle.std.proofs.Common.{ℕ, List, refl, subst, sym}
use Rattle.std.specs.Prelude.{◌↔◌, Contains}
use Rattle.nest_base.specs.declared.places.Point.{Point}
use Rattle.nest_base.specs.Plane.{HalfEdge}
use Rattle.plate_sides.specs.Odd.{IsOdd}
use Rattle.plate_sides.specs.Starts.{IsStart, HasOddOuter}
use Rattle.plate_nesting.proofs.Components.{outer_side_is_in}
use Rattle.half_edges.specs.Numbers.{IsSide}
use Rattle.half_edges.specs.Graph.{Graph, origin_of}
use Rattle.half_edges.proofs.Numbers.{side_from_half_edge}
use Rattle.face_nesting.specs.Nesting.{AreOuterSides, cycle_at}
use Rattle.half_edges.specs.PlaneGraphs.{IsPlaneGraph}
use Rattle.cover_plan.specs.Laws.{LeavesOdd, StartsAreTold}
use Rattle.cover_plan.proofs.Degrees.{odd_is_told}
use Rattle.cover_plan.proofs.OuterNumbers.{in_cycle, side_told}

module _ {graph : Graph} (is : IsPlaneGraph graph) (mark : Point) (cycle : List ℕ) (are : AreOuterSides graph.edges mark cycle) where
  odd_left : (s : ℕ) (h : HalfEdge) → IsSide graph.edges s h → IsOdd graph.edges h.from ↔ LeavesOdd graph s
  odd_left s h side = odd_is_told graph is (origin_of graph s) h.from (is.leaves s h side)

  -- an odd outer vertex is left by a half-edge of the cycle
  left_in_cycle : HasOddOuter graph.edges mark → (t : ℕ) × Contains cycle t × LeavesOdd graph t
  left_in_cycle (v, same, odd, (k, outer, from)) =
      let t = side_from_half_edge graph.edges k (outer_side_is_in graph.edges mark k outer).0 in
      (t.0, (side_told is mark cycle are t.0 k t.1).0 outer, (odd_left t.0 k t.1).0 (subst (IsOdd graph.edges) (sym from) odd))

  outer_in_cycle : (t : ℕ) → Contains cycle t → LeavesOdd graph t → HasOddOuter graph.edges mark
  outer_in_cycle t stands odd =
      let k = in_cycle is mark cycle are t stands in
      (k.0.from, (outer_side_is_in graph.edges mark k.0 k.2).1, (odd_left t k.0 k.1).1 odd, (k.0, k.2, refl))

  pub start_told : (s : ℕ) (h : HalfEdge) → IsSide graph.edges s h → IsStart graph.edges mark h ↔ (Contains cycle s × ((t : ℕ) → Contains cycle t → LeavesOdd graph t → LeavesOdd graph s))
  start_told s h side = (
    λ begins. ((side_told is mark cycle are s h side).0 begins.outer, λ t stands odd. (odd_left s h side).0 (begins.odd (outer_in_cycle t stands odd))),
    λ facts. record {
      outer = (side_told is mark cycle are s h side).1 facts.0;
      odd = λ has. let t = left_in_cycle has in (odd_left s h side).1 (facts.1 t.0 t.1 t.2);
    },
  )

pub starts_are_told : StartsAreTold
starts_are_told graph faces is cycles c mark at s h side = start_told is mark (cycle_at faces c) (cycles c mark at) s h side
