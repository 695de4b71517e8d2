-- What a plane graph is: its edges, its vertices and its components, each in order; and how they stand in lists of numbers.
use Rattle.std.specs.Prelude.{◌≡◌, ℕ, ◌+◌, ◌-◌, ◌==◌, if◌then◌else◌, ◌≤◌, ◌≢◌, pos, List, [], ◌∷◌, All, AllPairs, Some, length, slice_get, slice_index, slice_index_or}
use Rattle.nest_base.specs.declared.places.Point.{Point}
use Rattle.nest_base.specs.declared.places.Edge.{Edge}
use Rattle.nest_base.specs.Order.{IsBefore}
use Rattle.nest_base.specs.Range.{IsEdgeWithin, widest}
use Rattle.plate_edges.specs.Points.{EdgesMeetAtEndsOnly}
use Rattle.nest_base.specs.Plane.{HalfEdge}
use Rattle.nest_base.specs.Limits.{most_edges}
use Rattle.plate_sides.specs.Components.{SameComponent, AreMarks, IsIn}
use Rattle.plate_sides.specs.Links.{IsAlong}
use Rattle.half_edges.specs.Numbers.{half_edges_of, IsSide}
use Rattle.rotation_systems.specs.Twins.{twin_number}
use Rattle.half_edges.specs.Layouts.{IsLayout, ArePositions}
use Rattle.rotation_systems.specs.RotationSystem.{RotationSystem, along}

pub record Graph : Type 0 where
  pub edges : List Edge
  -- in the order of mark vertices
  pub vertices : List Point
  -- the mark vertex of each component
  pub marks : List Point
  -- by number of a half-edge: the number of the vertex that it leaves, and its place in the rotation there
  pub origins : List ℕ
  pub positions : List ℕ
  -- the numbers of all half-edges, vertex by vertex and round each; and where those of each vertex begin
  pub all : List ℕ
  pub starts : List ℕ
  -- by number of a vertex: the number of its component
  pub components : List ℕ
  -- the half-edges whose edges were burnt, in the order of burning
  pub burnt : List ℕ

-- the place of the vertex with this number
abbrev pub vertex_at : List Point → ℕ → Point
vertex_at vertices v = slice_index_or vertices v (record { x = pos 0; y = pos 0 })

-- the edges whose half-edges leave these vertices, two for each
abbrev pub edges_between : List Point → List ℕ → List Edge
edges_between vertices [] = []
edges_between vertices (u ∷ []) = []
edges_between vertices (u ∷ v ∷ origins) = record { low = vertex_at vertices u; high = vertex_at vertices v } ∷ edges_between vertices origins

-- by number of a vertex its component: the place among the marks of the mark vertex to which edges lead
pub record AreComponents (edges : List Edge) (vertices : List Point) (components : List ℕ) (marks : List Point) : Type 0 where
  pub are_marks : AreMarks edges marks
  pub as_many : length components ≡ length vertices
  pub leads : (v : ℕ) (p : Point) → slice_get vertices v ≡ Some p →
      (c : ℕ) × (mark : Point) × (slice_get components v ≡ Some c) × (slice_get marks c ≡ Some mark) × SameComponent edges p mark

-- what holds of the lists of a graph
pub record IsGraph (graph : Graph) : Type 0 where
  pub few : length graph.edges ≤ most_edges
  pub ends_in_order : All (λ (e : Edge). IsBefore e.low e.high) graph.edges
  pub each_once : AllPairs (λ (e f : Edge). e ≢ f) graph.edges
  pub within : All (IsEdgeWithin widest) graph.edges
  pub apart : AllPairs EdgesMeetAtEndsOnly graph.edges
  pub layout : IsLayout graph.edges graph.vertices graph.origins graph.all graph.starts
  pub are_positions : ArePositions graph.edges graph.positions
  pub are_components : AreComponents graph.edges graph.vertices graph.components graph.marks

-- by numbers: the vertex that a half-edge leaves, its place there, and the component of a vertex
abbrev pub origin_of : Graph → ℕ → ℕ
origin_of graph s = slice_index graph.origins s

abbrev pub place_of : Graph → ℕ → ℕ
place_of graph s = slice_index graph.positions s

abbrev pub component_of : Graph → ℕ → ℕ
component_of graph v = slice_index graph.components v

-- how many half-edges leave a vertex, and the one at a place of its rotation
abbrev pub degree_of : Graph → ℕ → ℕ
degree_of graph v = slice_index graph.starts (v + 1) - slice_index graph.starts v

abbrev pub side_in : Graph → ℕ → ℕ → ℕ
side_in graph v k = slice_index graph.all (slice_index graph.starts v + k)

-- of n places round, the one after place k, and the one before it
abbrev pub next_place : ℕ → ℕ → ℕ
next_place n k = if k + 1 == n then 0 else k + 1

abbrev pub place_before : ℕ → ℕ → ℕ
place_before n k = if k == 0 then n - 1 else k - 1

-- the next half-edge counterclockwise, and clockwise
abbrev pub ccw_of : Graph → ℕ → ℕ
ccw_of graph s = side_in graph (origin_of graph s) (next_place (degree_of graph (origin_of graph s)) (place_of graph s))

abbrev pub cw_of : Graph → ℕ → ℕ
cw_of graph s = side_in graph (origin_of graph s) (place_before (degree_of graph (origin_of graph s)) (place_of graph s))

-- the rotations of a graph, by numbers alone
abbrev pub rotations_of : Graph → RotationSystem
rotations_of graph = record { sides = length (half_edges_of graph.edges); twin = twin_number; ccw = ccw_of graph; cw = cw_of graph; from = origin_of graph }

-- by number half-edges go along as they do on the plate
abbrev pub GoesAlong : Graph → Type 0
GoesAlong graph =
    (s : ℕ) (h : HalfEdge) → IsSide graph.edges s h → (t : HalfEdge) × IsSide graph.edges (along (rotations_of graph) s) t × IsAlong graph.edges h t

-- each half-edge lies in the component that has the number of the vertex which it leaves
abbrev pub LieInComponents : Graph → Type 0
LieInComponents graph =
    (s : ℕ) (h : HalfEdge) → IsSide graph.edges s h →
    (mark : Point) × (slice_get graph.marks (component_of graph (origin_of graph s)) ≡ Some mark) × IsIn graph.edges mark h
