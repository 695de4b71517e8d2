-- By number the half-edges of a graph go along faces as on the plate, and each lies in the component of the vertex that it leaves.
use Rattle.std.proofs.Common.{arith, ◌≡◌, ℕ, ◌+◌, ◌<◌, inl, inr, slice_get, ap, subst, ◌∙◌}
use Rattle.std.proofs.lemmas.Bool.{cases_eq}
use Rattle.std.proofs.lemmas.Bool.Decides.{nat_tests}
use Rattle.std.proofs.lemmas.Option.{slice_get_within, get_or_from_slice_get}
use Rattle.nest_base.specs.Plane.{HalfEdge, twin}
use Rattle.plate_sides.specs.HalfEdges.{IsNextCw}
use Rattle.half_edges.specs.Numbers.{half_edges_of, IsSide}
use Rattle.rotation_systems.specs.Twins.{twin_number}
use Rattle.half_edges.specs.Graph.{Graph, IsGraph, GoesAlong, LieInComponents, origin_of, place_of, component_of, degree_of, cw_of, place_before}
use Rattle.nest_base.proofs.ListReads.{read_below}
use Rattle.half_edges.proofs.Numbers.{one_side, side_is_half_edge}
use Rattle.half_edges.proofs.Twins.{IsSide-twin}
use Rattle.half_edges.proofs.Cycles.{before_below}
use Rattle.half_edges.proofs.NextRound.{IsNextPlace, next_in_rotation}
use Rattle.half_edges.proofs.GraphCycles.{read, side_there}

-- a place comes next after the one before it
next_after_before : (n k : ℕ) → k < n → IsNextPlace n (place_before n k) k
next_after_before n k below = elim (cases_eq k 0) [
  | inl none ↦
      let last : place_before n k + 1 ≡ n = grind (arith, nat_tests) in
      inr (last, none)
  | inr some ↦
      let next : k ≡ place_before n k + 1 = grind (arith, nat_tests) in
      inl next
]

module _ (graph : Graph) (known : IsGraph graph) where
  -- the half-edge that has the number of the next one clockwise is met next clockwise
  next_clockwise : (s : ℕ) (h : HalfEdge) → IsSide graph.edges s h → (t : HalfEdge) × IsSide graph.edges (cw_of graph s) t × IsNextCw graph.edges h t
  next_clockwise s h is =
      let at = read known s (slice_get_within (half_edges_of graph.edges) s h is) in
      let n = degree_of graph (origin_of graph s) in
      let k = place_of graph s in
      let place : k < n = omega (arith, at.long, slice_get_within at.rotation k at.half at.stands) in
      let t = read_below at.rotation (place_before n k) (omega (arith, at.long, before_below n k place)) in
      let next = next_in_rotation graph.edges known.ends_in_order at.half.from at.rotation at.is_rotation (place_before n k) k t.0 at.half t.1 at.stands
      (subst (λ long. IsNextPlace long (place_before n k) k) at.long (next_after_before n k place)) in
      (t.0, side_there known s at (place_before n k) t.0 t.1, subst (λ g. IsNextCw graph.edges g t.0) (one_side graph.edges s at.half h at.is_side is) next)

  pub goes_along : GoesAlong graph
  goes_along s h is =
      let next = next_clockwise (twin_number s) (twin h) (IsSide-twin graph.edges s h is) in
      (next.0, next.1, (side_is_half_edge graph.edges s h is, next.2))

  pub lie_in_components : LieInComponents graph
  lie_in_components s h is =
      let vertex = known.layout.leaves s h is in
      let component = known.are_components.leads vertex.0 h.from vertex.2 in
      let origin = get_or_from_slice_get graph.origins s vertex.0 0 vertex.1 in
      let number : component_of graph (origin_of graph s) ≡ component.0 = ap (component_of graph) origin ∙ get_or_from_slice_get graph.components vertex.0 component.0 0 component.2 in
      (component.1, ap (slice_get graph.marks) number ∙ component.3, (side_is_half_edge graph.edges s h is, component.4))
