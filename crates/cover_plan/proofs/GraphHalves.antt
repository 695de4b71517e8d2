-- The half-edges and vertices of a plane graph, by number.
use Rattle.std.proofs.Common.{◌≡◌, ℕ, ◌<◌, List, length, sym, ap, subst, ◌∙◌}
use Rattle.std.specs.Prelude.{Some, slice_get}
use Rattle.std.proofs.lemmas.Option.{slice_get_within, get_or_from_slice_get}
use Rattle.nest_base.specs.declared.places.Point.{Point}
use Rattle.nest_base.specs.Plane.{HalfEdge, twin}
use Rattle.plate_sides.specs.HalfEdges.{IsHalfEdge}
use Rattle.plate_sides.specs.Links.{IsAlong}
use Rattle.half_edges.specs.Numbers.{half_edges_of, IsSide}
use Rattle.rotation_systems.specs.Twins.{twin_number}
use Rattle.rotation_systems.specs.RotationSystem.{along}
use Rattle.half_edges.specs.Graph.{Graph, rotations_of, origin_of, vertex_at}
use Rattle.half_edges.proofs.AllSides.{side_at_is}
use Rattle.nest_base.proofs.ListReads.{one_read, Contains-from_read, read_below}
use Rattle.half_edges.proofs.Neighbours.{one_number as vertex_number}
use Rattle.half_edges.proofs.Numbers.{side_is_half_edge, side_from_half_edge}
use Rattle.half_edges.proofs.Twins.{IsSide-twin}
use Rattle.face_nesting.proofs.KnownGraph.{one_number}
use Rattle.half_edges.specs.PlaneGraphs.{IsPlaneGraph}
use Rattle.cover_plan.specs.Trails.{half_edge_of}

pub half_is : (graph : Graph) (s : ℕ) (h : HalfEdge) → IsSide graph.edges s h → half_edge_of graph s ≡ h
half_is graph s h is = side_at_is graph.edges s h is

pub has_number : (graph : Graph) (s : ℕ) → s < length (half_edges_of graph.edges) → IsSide graph.edges s (half_edge_of graph s)
has_number graph s below =
    let h = read_below (half_edges_of graph.edges) s below in
    subst (IsSide graph.edges s) (sym (half_is graph s h.0 h.1)) h.1

pub vertex_is : (vertices : List Point) (v : ℕ) (p : Point) → slice_get vertices v ≡ Some p → vertex_at vertices v ≡ p
vertex_is vertices v p at = get_or_from_slice_get vertices v p _ at

module _ {graph : Graph} (is : IsPlaneGraph graph) where
  pub is_half_edge : (s : ℕ) → s < length (half_edges_of graph.edges) → IsHalfEdge graph.edges (half_edge_of graph s)
  is_half_edge s below = side_is_half_edge graph.edges s (half_edge_of graph s) (has_number graph s below)

  -- each half-edge has a number
  pub number_of : (h : HalfEdge) → IsHalfEdge graph.edges h → (s : ℕ) × (s < length (half_edges_of graph.edges)) × (half_edge_of graph s ≡ h)
  number_of h is_half =
      let side = side_from_half_edge graph.edges h is_half in
      (side.0, slice_get_within (half_edges_of graph.edges) side.0 h side.1, half_is graph side.0 h side.1)

  -- and that alone
  pub one_half : (s t : ℕ) → s < length (half_edges_of graph.edges) → t < length (half_edges_of graph.edges) → half_edge_of graph s ≡ half_edge_of graph t → s ≡ t
  one_half s t below_s below_t same =
      one_number is s t (half_edge_of graph s) (has_number graph s below_s) (subst (IsSide graph.edges t) (sym same) (has_number graph t below_t))

  pub half_twin : (s : ℕ) → s < length (half_edges_of graph.edges) → half_edge_of graph (twin_number s) ≡ twin (half_edge_of graph s)
  half_twin s below = half_is graph (twin_number s) (twin (half_edge_of graph s)) (IsSide-twin graph.edges s (half_edge_of graph s) (has_number graph s below))

  pub half_along : (s : ℕ) → s < length (half_edges_of graph.edges) → IsAlong graph.edges (half_edge_of graph s) (half_edge_of graph (along (rotations_of graph) s))
  half_along s below =
      let next = is.goes_along s (half_edge_of graph s) (has_number graph s below) in
      subst (IsAlong graph.edges (half_edge_of graph s)) (sym (half_is graph (along (rotations_of graph) s) next.0 next.1)) next.2

  -- the vertex that a half-edge leaves
  pub left_at : (s : ℕ) → s < length (half_edges_of graph.edges) → slice_get graph.vertices (origin_of graph s) ≡ Some (half_edge_of graph s).from
  left_at s below = is.leaves s (half_edge_of graph s) (has_number graph s below)

  -- half-edges with one origin leave one place
  pub same_place : (s t : ℕ) → s < length (half_edges_of graph.edges) → t < length (half_edges_of graph.edges) → origin_of graph s ≡ origin_of graph t →
      (half_edge_of graph s).from ≡ (half_edge_of graph t).from
  same_place s t below_s below_t same =
      one_read graph.vertices (origin_of graph t) (half_edge_of graph s).from (half_edge_of graph t).from (ap (slice_get graph.vertices) (sym same) ∙ left_at s below_s) (left_at t below_t)

  -- a vertex has one number
  pub one_vertex : (u v : ℕ) (p : Point) → slice_get graph.vertices u ≡ Some p → slice_get graph.vertices v ≡ Some p → u ≡ v
  one_vertex u v p at_u at_v = vertex_number graph.edges graph.vertices u v p is.are_vertices at_u at_v

  pub origin_is : (s v : ℕ) (p : Point) → s < length (half_edges_of graph.edges) → slice_get graph.vertices v ≡ Some p → (half_edge_of graph s).from ≡ p → origin_of graph s ≡ v
  origin_is s v p below at from = one_vertex (origin_of graph s) v p (left_at s below ∙ ap Some from) at

  -- and some half-edge leaves it
  pub leaving : (v : ℕ) (p : Point) → slice_get graph.vertices v ≡ Some p →
      (s : ℕ) × (s < length (half_edges_of graph.edges)) × (origin_of graph s ≡ v) × ((half_edge_of graph s).from ≡ p)
  leaving v p at =
      let h = (is.are_vertices.are_all p).0 (Contains-from_read graph.vertices v p at) in
      let s = number_of h.0 h.1.0 in
      let from = ap (λ (g : HalfEdge). g.from) s.2 ∙ h.1.1 in
      (s.0, s.1, origin_is s.0 v p s.1 at from, from)
