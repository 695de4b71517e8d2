-- What numbers tell of a plane graph.
use Rattle.std.specs.Prelude.{◌≡◌, ◌↔◌, ℕ, ◌%◌, List, [], Contains, Some, length, slice_get}
use Rattle.nest_base.specs.declared.places.Point.{Point}
use Rattle.nest_base.specs.Plane.{HalfEdge}
use Rattle.plate_sides.specs.Links.{IsOuterSide, IsOuterVertex}
use Rattle.plate_sides.specs.Odd.{HasDegree, IsOdd, AreOddVertices}
use Rattle.plate_sides.specs.Starts.{IsStart}
use Rattle.plate_sides.specs.ComponentCovers.{IsComponentCover, LastEndsAt}
use Rattle.half_edges.specs.Numbers.{IsSide}
use Rattle.rotation_systems.specs.RotationSystem.{degree}
use Rattle.half_edges.specs.Graph.{Graph, rotations_of, component_of, origin_of}
use Rattle.half_edges.specs.PlaneGraphs.{IsPlaneGraph}
use Rattle.face_nesting.specs.Nesting.{Nesting, AreOuterCycles, cycle_at}
use Rattle.cover_walks.specs.Walks.{odd_count}
use Rattle.cover_walks.specs.Covers.{IsCoverOrder}
use Rattle.cover_plan.specs.Trails.{trails_of}

-- an odd number of half-edges leave the vertex that this one leaves
abbrev pub LeavesOdd : Graph → ℕ → Type 0
LeavesOdd graph s = degree (rotations_of graph) (origin_of graph s) % 2 ≡ 1

-- the degree of a vertex is the number of half-edges that leave it
abbrev pub DegreesAreCounted : Type 0
DegreesAreCounted =
    (graph : Graph) → IsPlaneGraph graph → (v : ℕ) (p : Point) → slice_get graph.vertices v ≡ Some p → HasDegree graph.edges p (degree (rotations_of graph) v)

-- so a vertex is odd exactly where that number is
abbrev pub OddIsTold : Type 0
OddIsTold =
    (graph : Graph) → IsPlaneGraph graph → (v : ℕ) (p : Point) → slice_get graph.vertices v ≡ Some p →
    IsOdd graph.edges p ↔ (degree (rotations_of graph) v % 2 ≡ 1)

-- the odd vertices of a component are as many as its vertices with an odd number of half-edges
abbrev pub OddVerticesAreCounted : Type 0
OddVerticesAreCounted =
    (graph : Graph) → IsPlaneGraph graph → (c : ℕ) (mark : Point) → slice_get graph.marks c ≡ Some mark →
    (odd : List Point) × AreOddVertices graph.edges mark odd × (length odd ≡ odd_count (rotations_of graph) (component_of graph) c (length graph.vertices) [])

-- a cover by numbers, from a half-edge at which the component's cover may start, is the component's cover of a plan
abbrev pub CoversAreComponentCovers : Type 0
CoversAreComponentCovers =
    (graph : Graph) → IsPlaneGraph graph → (c : ℕ) (mark : Point) → slice_get graph.marks c ≡ Some mark →
    (s : ℕ) (h : HalfEdge) → IsSide graph.edges s h → IsStart graph.edges mark h →
    (order : List ℕ) → IsCoverOrder (rotations_of graph) (component_of graph) s order → IsComponentCover graph.edges mark (trails_of graph order)

-- its last trail ends where it started
abbrev pub CoversEndAtTheirStart : Type 0
CoversEndAtTheirStart =
    (graph : Graph) → IsPlaneGraph graph → (s : ℕ) (h : HalfEdge) → IsSide graph.edges s h →
    (order : List ℕ) → IsCoverOrder (rotations_of graph) (component_of graph) s order → LastEndsAt (trails_of graph order) h.from

-- the outer sides of a component are those whose numbers stand in its outer cycle
abbrev pub OuterSidesAreTold : Type 0
OuterSidesAreTold =
    (graph : Graph) (faces : Nesting) → IsPlaneGraph graph → AreOuterCycles graph faces → (c : ℕ) (mark : Point) → slice_get graph.marks c ≡ Some mark →
    (s : ℕ) (h : HalfEdge) → IsSide graph.edges s h → IsOuterSide graph.edges mark h ↔ Contains (cycle_at faces c) s

-- so its outer vertices are those that such a half-edge leaves
abbrev pub OuterVerticesAreTold : Type 0
OuterVerticesAreTold =
    (graph : Graph) (faces : Nesting) → IsPlaneGraph graph → AreOuterCycles graph faces → (c : ℕ) (mark : Point) → slice_get graph.marks c ≡ Some mark →
    (v : ℕ) (p : Point) → slice_get graph.vertices v ≡ Some p →
    IsOuterVertex graph.edges mark p ↔ ((s : ℕ) × Contains (cycle_at faces c) s × (origin_of graph s ≡ v))

-- and a cover may start at one of these half-edges, at an odd vertex if one of them leaves an odd vertex
abbrev pub StartsAreTold : Type 0
StartsAreTold =
    (graph : Graph) (faces : Nesting) → IsPlaneGraph graph → AreOuterCycles graph faces → (c : ℕ) (mark : Point) → slice_get graph.marks c ≡ Some mark →
    (s : ℕ) (h : HalfEdge) → IsSide graph.edges s h →
    IsStart graph.edges mark h ↔ (Contains (cycle_at faces c) s × ((t : ℕ) → Contains (cycle_at faces c) t → LeavesOdd graph t → LeavesOdd graph s))
