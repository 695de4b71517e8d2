-- A graph is a rotation system, and its components go along edges.
use Rattle.std.proofs.Common.{arith, ◌≡◌, ◌≢◌, ℕ, zero, suc, ◌<◌, Some, length, slice_get, refl, sym, ap, subst, ◌∙◌}
use Rattle.std.proofs.lemmas.Option.{slice_get_within, get_or_from_slice_get}
use Rattle.nest_base.specs.declared.places.Point.{Point}
use Rattle.nest_base.specs.declared.places.Edge.{Edge}
use Rattle.nest_base.specs.Plane.{HalfEdge, twin}
use Rattle.nest_base.specs.Order.{IsBefore}
use Rattle.nest_base.specs.Walks.{against}
use Rattle.nest_base.proofs.Walks.{Walk-then, Walk-back}
use Rattle.std.proofs.lemmas.List.Elements.{All-contains}
use Rattle.plate_sides.proofs.HalfEdges.{ends_differ}
use Rattle.half_edges.specs.Numbers.{half_edges_of}
use Rattle.rotation_systems.specs.Twins.{twin_number}
use Rattle.half_edges.specs.Graph.{Graph, IsGraph, rotations_of, component_of, origin_of, degree_of}
use Rattle.rotation_systems.specs.RotationSystem.{IsRotationSystem, Divides, to, turn, degree}
use Rattle.nest_base.proofs.ListReads.{one_read}
use Rattle.half_edges.proofs.Numbers.{length-half_edges, side_is_half_edge, side_from_half_edge}
use Rattle.half_edges.proofs.Twins.{IsSide-twin}
use Rattle.rotation_systems.proofs.Twins.{twin_below, twin_twice}
use Rattle.half_edges.proofs.Cycles.{steps, after_below, ahead_below, after_origin, ahead_origin, after_ahead, ahead_after, all_met}
use Rattle.half_edges.proofs.Totals.{total-origin}
use Rattle.half_edges.proofs.GraphReads.{is_vertex}
use Rattle.half_edges.proofs.GraphMarks.{one_component}
use Rattle.half_edges.proofs.GraphCycles.{IsRead, read, origin_is, half_edges_in_cycles}

module _ {graph : Graph} (known : IsGraph graph) where
  twin_within : (s : ℕ) → s < length (half_edges_of graph.edges) → twin_number s < length (half_edges_of graph.edges)
  twin_within s below =
      let long = length-half_edges graph.edges in
      omega (arith, long, twin_below (length graph.edges) s (omega (arith, below, long)))

  -- k steps on, in both words
  turn_is_steps : (r k : ℕ) → turn (rotations_of graph) k r ≡ steps (half_edges_in_cycles known) k r
  turn_is_steps r zero = refl
  turn_is_steps r (suc k) = ap (rotations_of graph).ccw (turn_is_steps r k)

  -- the half-edges that leave a vertex, counted
  pub counted : (s : ℕ) → s < length (half_edges_of graph.edges) → degree (rotations_of graph) (origin_of graph s) ≡ degree_of graph (origin_of graph s)
  counted s below = total-origin (half_edges_in_cycles known) s below

  -- each vertex is left by some half-edge, so this holds of all vertices
  pub counted_at : (v : ℕ) (p : Point) → slice_get graph.vertices v ≡ Some p → degree (rotations_of graph) v ≡ degree_of graph v
  counted_at v p at =
      let h = is_vertex known v p at in
      let side = side_from_half_edge graph.edges h.0 h.1.0 in
      let number = origin_is known side.0 v h.0 side.1 (at ∙ ap Some (sym h.1.1)) in
      subst (λ u. degree (rotations_of graph) u ≡ degree_of graph u) number (counted side.0 (slice_get_within (half_edges_of graph.edges) side.0 h.0 side.1))

  met : (r s : ℕ) → r < length (half_edges_of graph.edges) → s < length (half_edges_of graph.edges) → origin_of graph s ≡ origin_of graph r →
      (k : ℕ) × (k < degree (rotations_of graph) (origin_of graph r)) × (turn (rotations_of graph) (suc k) r ≡ s)
  met r s below_r below_s same =
      let k = all_met (half_edges_in_cycles known) r s below_r below_s same in
      (k.0, omega (arith, k.1, counted r below_r), turn_is_steps r (suc k.0) ∙ k.2)

  -- what the twin of s is, where s is read
  twin_half : (s : ℕ) (at : IsRead known s) (also : IsRead known (twin_number s)) → also.half ≡ twin at.half
  twin_half s at also = one_read (half_edges_of graph.edges) (twin_number s) also.half (twin at.half) also.is_side (IsSide-twin graph.edges s at.half at.is_side)

  -- the vertex to which s leads
  led_to : (s : ℕ) (at : IsRead known s) (also : IsRead known (twin_number s)) → slice_get graph.vertices (origin_of graph (twin_number s)) ≡ Some at.half.to
  led_to s at also = also.from ∙ ap (λ (h : HalfEdge). Some h.from) (twin_half s at also)

  ends_apart : (s : ℕ) → s < length (half_edges_of graph.edges) → to (rotations_of graph) s ≢ origin_of graph s
  ends_apart s below same =
      let at = read known s below in
      let half = side_is_half_edge graph.edges s at.half at.is_side in
      let there = led_to s at (read known (twin_number s) (twin_within s below)) in
      let place = one_read graph.vertices (origin_of graph s) at.half.to at.half.from (ap (slice_get graph.vertices) (sym same) ∙ there) at.from in
      ends_differ half.0 at.half (All-contains (λ (f : Edge). IsBefore f.low f.high) graph.edges half.0 known.ends_in_order half.1) half.2 place

  pub graph_is_rotation : IsRotationSystem (rotations_of graph)
  graph_is_rotation = record {
    twin_in = twin_within;
    ccw_in = after_below (half_edges_in_cycles known);
    cw_in = ahead_below (half_edges_in_cycles known);
    twin_twin = twin_twice;
    no_loop = ends_apart;
    cw_ccw = ahead_after (half_edges_in_cycles known);
    ccw_cw = after_ahead (half_edges_in_cycles known);
    ccw_from = after_origin (half_edges_in_cycles known);
    cw_from = ahead_origin (half_edges_in_cycles known);
    whole = met;
  }

  pub components_divide : Divides (rotations_of graph) (component_of graph)
  components_divide s below =
      let at = read known s below in
      let u = origin_of graph (twin_number s) in
      let v = origin_of graph s in
      let there = led_to s at (read known (twin_number s) (twin_within s below)) in
      let component_u = known.are_components.leads u at.half.to there in
      let component_v = known.are_components.leads v at.half.from at.from in
      let joined = Walk-then (Walk-back component_u.4) (against (side_is_half_edge graph.edges s at.half at.is_side) component_v.4) in
      let number = one_component known component_u.0 component_v.0 component_u.1 component_v.1 component_u.3 component_v.3 joined in
      get_or_from_slice_get graph.components u component_u.0 0 component_u.2 ∙ number ∙ sym (get_or_from_slice_get graph.components v component_v.0 0 component_v.2)
