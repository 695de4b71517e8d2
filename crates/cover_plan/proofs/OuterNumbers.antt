-- The outer sides and vertices of a component, by the numbers of its outer cycle.
use Rattle.std.proofs.Common.{◌≡◌, ℕ, List, subst, sym, ap, ◌∙◌}
use Rattle.std.specs.Prelude.{◌↔◌, Contains, Some, slice_get}
use Rattle.nest_base.specs.declared.places.Point.{Point}
use Rattle.nest_base.specs.Plane.{HalfEdge}
use Rattle.plate_sides.specs.Links.{IsOuterSide, IsOuterVertex}
use Rattle.plate_nesting.proofs.OuterCycles.{cycle_is_outer}
use Rattle.half_edges.specs.Numbers.{IsSide}
use Rattle.half_edges.specs.Graph.{Graph, origin_of}
use Rattle.nest_base.proofs.ListReads.{one_read, Contains-from_read, read_from_Contains}
use Rattle.half_edges.proofs.Numbers.{one_side, side_from_half_edge}
use Rattle.face_nesting.specs.Nesting.{AreOuterSides, cycle_at}
use Rattle.face_nesting.proofs.KnownGraph.{one_number}
use Rattle.face_nesting.proofs.Zips.{zip_first, zip_second}
use Rattle.plate_nesting.proofs.Components.{outer_side_is_in}
use Rattle.half_edges.specs.PlaneGraphs.{IsPlaneGraph}
use Rattle.cover_plan.specs.Laws.{OuterSidesAreTold, OuterVerticesAreTold}
use Rattle.cover_plan.proofs.GraphHalves.{one_vertex}

module _ {graph : Graph} (is : IsPlaneGraph graph) (mark : Point) (cycle : List ℕ) (are : AreOuterSides graph.edges mark cycle) where
  stands_in_cycle : (s : ℕ) (h : HalfEdge) → IsSide graph.edges s h → IsOuterSide graph.edges mark h → Contains cycle s
  stands_in_cycle s h side outer =
      let at = read_from_Contains are.0 h (are.2.whole h outer) in
      let t = zip_first (IsSide graph.edges) cycle are.0 at.0 h are.1 at.1 in
      subst (Contains cycle) (one_number is t.0 s h t.2 side) (Contains-from_read cycle at.0 t.0 t.1)

  -- what stands in the cycle is an outer side
  pub in_cycle : (s : ℕ) → Contains cycle s → (h : HalfEdge) × IsSide graph.edges s h × IsOuterSide graph.edges mark h
  in_cycle s stands =
      let at = read_from_Contains cycle s stands in
      let h = zip_second (IsSide graph.edges) cycle are.0 at.0 s are.1 at.1 in
      (h.0, h.2, cycle_is_outer graph.edges mark are.0 are.2 h.0 (Contains-from_read are.0 at.0 h.0 h.1))

  pub side_told : (s : ℕ) (h : HalfEdge) → IsSide graph.edges s h → IsOuterSide graph.edges mark h ↔ Contains cycle s
  side_told s h side = (
    stands_in_cycle s h side,
    λ stands. let g = in_cycle s stands in subst (IsOuterSide graph.edges mark) (one_side graph.edges s g.0 h g.1 side) g.2,
  )

  pub vertex_told : (v : ℕ) (p : Point) → slice_get graph.vertices v ≡ Some p → IsOuterVertex graph.edges mark p ↔ ((s : ℕ) × Contains cycle s × (origin_of graph s ≡ v))
  vertex_told v p at = (
    λ (h, outer, from).
        let s = side_from_half_edge graph.edges h (outer_side_is_in graph.edges mark h outer).0 in
        (s.0, stands_in_cycle s.0 h s.1 outer, one_vertex is (origin_of graph s.0) v p (is.leaves s.0 h s.1 ∙ ap Some from) at),
    λ (s, stands, origin).
        let h = in_cycle s stands in
        (h.0, h.2, one_read graph.vertices v h.0.from p (ap (slice_get graph.vertices) (sym origin) ∙ is.leaves s h.0 h.1) at),
  )

pub outer_sides_are_told : OuterSidesAreTold
outer_sides_are_told graph faces is cycles c mark at s h side = side_told is mark (cycle_at faces c) (cycles c mark at) s h side

pub outer_vertices_are_told : OuterVerticesAreTold
outer_vertices_are_told graph faces is cycles c mark at v p at_v = vertex_told is mark (cycle_at faces c) (cycles c mark at) v p at_v
