-- What holds of every plane graph, whatever is burnt of it.
use Rattle.std.specs.Prelude.{◌≡◌, ◌≢◌, ℕ, ◌<◌, ◌≤◌, Some, length, slice_get, All, AllPairs}
use Rattle.nest_base.specs.declared.places.Edge.{Edge}
use Rattle.nest_base.specs.Plane.{HalfEdge}
use Rattle.nest_base.specs.Order.{IsBefore}
use Rattle.nest_base.specs.Range.{IsEdgeWithin, widest}
use Rattle.nest_base.specs.Limits.{most_edges}
use Rattle.plate_edges.specs.Points.{EdgesMeetAtEndsOnly}
use Rattle.plate_sides.specs.Components.{AreMarks}
use Rattle.plate_sides.specs.Nesting.{IsRound}
use Rattle.half_edges.specs.Numbers.{half_edges_of, IsSide}
use Rattle.half_edges.specs.Layouts.{AreVertices}
use Rattle.rotation_systems.specs.RotationSystem.{IsRotationSystem, Divides}
use Rattle.half_edges.specs.Graph.{Graph, GoesAlong, LieInComponents, rotations_of, origin_of, component_of}

pub record IsPlaneGraph (graph : Graph) : Type 0 where
  -- its edges
  pub few : length graph.edges ≤ most_edges
  pub ends_in_order : All (λ (e : Edge). IsBefore e.low e.high) graph.edges
  pub each_once : AllPairs (λ (e f : Edge). e ≢ f) graph.edges
  pub within : All (IsEdgeWithin widest) graph.edges
  pub apart : AllPairs EdgesMeetAtEndsOnly graph.edges
  pub round : IsRound graph.edges
  -- its vertices, and which of them half-edges leave, by number
  pub are_vertices : AreVertices graph.edges graph.vertices
  pub as_many : length graph.origins ≡ length (half_edges_of graph.edges)
  pub leaves : (s : ℕ) (h : HalfEdge) → IsSide graph.edges s h → slice_get graph.vertices (origin_of graph s) ≡ Some h.from
  pub below : (s : ℕ) → s < length (half_edges_of graph.edges) → origin_of graph s < length graph.vertices
  -- its rotations, which go along as half-edges do on the plate
  pub rotation : IsRotationSystem (rotations_of graph)
  pub goes_along : GoesAlong graph
  -- its components
  pub are_marks : AreMarks graph.edges graph.marks
  pub divides : Divides (rotations_of graph) (component_of graph)
  pub components : LieInComponents graph
