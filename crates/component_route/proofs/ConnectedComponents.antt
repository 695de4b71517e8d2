-- In a plane graph half-edges lead from each vertex of a component to each other.
use Rattle.std.proofs.Common.{◌≡◌, ℕ, ◌<◌, Some, slice_get, sym, ap, subst, arith, ◌∙◌}
use Rattle.nest_base.proofs.Walks.{Walk-keeps, Walk-back}
use Rattle.nest_base.specs.declared.places.Point.{Point}
use Rattle.nest_base.specs.Plane.{HalfEdge, twin}
use Rattle.plate_sides.specs.Components.{IsJoinedTo}
use Rattle.half_edges.specs.Numbers.{IsSide}
use Rattle.rotation_systems.specs.Twins.{twin_number}
use Rattle.rotation_systems.specs.RotationSystem.{to}
use Rattle.half_edges.specs.Graph.{Graph, rotations_of, component_of, origin_of}
use Rattle.half_edges.specs.PlaneGraphs.{IsPlaneGraph}
use Rattle.half_edges.proofs.Numbers.{length-half_edges, side_below, side_from_half_edge, side_within}
use Rattle.nest_base.proofs.ListReads.{one_read}
use Rattle.half_edges.proofs.Neighbours.{one_number as vertex_number}
use Rattle.half_edges.proofs.Twins.{IsSide-twin}
use Rattle.cover_walks.specs.Chains.{Linked, at_root, over, IsConnected}

module _ (x : Graph) (is : IsPlaneGraph x) (start : ℕ) (start_in : start < (rotations_of x).sides) where
  IsReached : Point → Type 0
  IsReached p = (v : ℕ) → slice_get x.vertices v ≡ Some p → Linked (rotations_of x) (origin_of x start) v

  -- a half-edge leads on
  on_by : (s : ℕ) (h : HalfEdge) → IsSide x.edges s h → IsReached h.from → IsReached h.to
  unfolding IsReached
  on_by s h side reached v at =
      let below : s < (rotations_of x).sides = omega (arith, length-half_edges x.edges, side_within x.edges s h side) in
      let end : v ≡ to (rotations_of x) s = vertex_number x.edges x.vertices v (to (rotations_of x) s) h.to is.are_vertices at (is.leaves (twin_number s) (twin h) (IsSide-twin x.edges s h side)) in
      subst (Linked (rotations_of x) (origin_of x start)) (sym end) (over below (reached (origin_of x s) (is.leaves s h side)))

  joined : (p q : Point) → IsJoinedTo x.edges p q → (IsReached p → IsReached q) × (IsReached q → IsReached p)
  joined p q j =
      let h : HalfEdge = record { from = p; to = q } in
      let s = side_from_half_edge x.edges h j in
      (on_by s.0 h s.1, on_by (twin_number s.0) (twin h) (IsSide-twin x.edges s.0 h s.1))

  side_there : (s : ℕ) → s < (rotations_of x).sides → (h : HalfEdge) × IsSide x.edges s h
  side_there s b = side_below x.edges s (omega (arith, length-half_edges x.edges))

  pub is_connected : IsConnected (rotations_of x) (component_of x) (origin_of x start)
  unfolding IsReached
  is_connected s b same =
      let (h, side) = side_there s b in
      let (k, first) = side_there start start_in in
      let (mark, at_mark, in_component) = is.components s h side in
      let (other, at_other, in_first) = is.components start k first in
      let one : other ≡ mark = one_read x.marks (component_of x (origin_of x s)) other mark (ap (slice_get x.marks) same ∙ at_other) at_mark in
      let root : IsReached k.from = λ v at.
      subst (Linked (rotations_of x) (origin_of x start)) (vertex_number x.edges x.vertices (origin_of x start) v k.from is.are_vertices (is.leaves start k first) at) at_root in
      let to_mark : IsReached mark = subst IsReached one (Walk-keeps IsReached joined (Walk-back in_first.1) root) in
      Walk-keeps IsReached joined in_component.1 to_mark (origin_of x s) (is.leaves s h side)
