-- What holds of every plane graph, from what holds of its lists.
use Rattle.std.proofs.Common.{◌≡◌, ℕ, Some, slice_get, sym, subst}
use Rattle.std.proofs.lemmas.Option.{get_or_from_slice_get}
use Rattle.nest_base.specs.Plane.{HalfEdge}
use Rattle.half_edges.specs.Numbers.{IsSide}
use Rattle.half_edges.specs.Graph.{Graph, IsGraph, origin_of}
use Rattle.half_edges.specs.PlaneGraphs.{IsPlaneGraph}
use Rattle.half_edges.proofs.GraphCycles.{origin_within}
use Rattle.half_edges.proofs.RotationLaws.{graph_is_rotation, components_divide}
use Rattle.half_edges.proofs.GraphAlongs.{goes_along, lie_in_components}
use Rattle.half_edges.proofs.RoundOfGraph.{round_of_graph}

module _ {graph : Graph} (known : IsGraph graph) where
  leaves : (s : ℕ) (h : HalfEdge) → IsSide graph.edges s h → slice_get graph.vertices (origin_of graph s) ≡ Some h.from
  leaves s h is =
      let vertex = known.layout.leaves s h is in
      subst (λ v. slice_get graph.vertices v ≡ Some h.from) (sym (get_or_from_slice_get graph.origins s vertex.0 0 vertex.1)) vertex.2

  pub plane_graph : IsPlaneGraph graph
  plane_graph = record {
    few = known.few;
    ends_in_order = known.ends_in_order;
    each_once = known.each_once;
    within = known.within;
    apart = known.apart;
    round = round_of_graph graph known;
    are_vertices = known.layout.are_vertices;
    as_many = known.layout.as_many;
    leaves = leaves;
    below = origin_within known;
    rotation = graph_is_rotation known;
    goes_along = goes_along graph known;
    are_marks = known.are_components.are_marks;
    divides = components_divide known;
    components = lie_in_components graph known;
  }
