-- How vertices, half-edges and rotations stand in lists.
use Rattle.std.specs.Prelude.{◌≡◌, ℕ, ◌+◌, ◌≤◌, List, length, slice_get, Some}
use Rattle.nest_base.specs.declared.places.Point.{Point}
use Rattle.nest_base.specs.declared.places.Edge.{Edge}
use Rattle.nest_base.specs.Plane.{HalfEdge}
use Rattle.nest_base.specs.Order.{IsMarkedBefore}
use Rattle.nest_base.specs.Selection.{EnumeratesBy}
use Rattle.plate_sides.specs.HalfEdges.{IsVertex}
use Rattle.half_edges.specs.Numbers.{half_edges_of, IsSide}
use Rattle.half_edges.specs.Rotations.{IsRotation}

-- all vertices, each once, in the order of mark vertices
abbrev pub AreVertices : List Edge → List Point → Type 0
AreVertices edges vertices = EnumeratesBy IsMarkedBefore (IsVertex edges) vertices

-- of `all`, those from one place on to before another are the numbers of the half-edges round v, in order
pub record IsRotationAt (edges : List Edge) (v : Point) (all : List ℕ) (first behind : ℕ) : Type 0 where
  pub rotation : List HalfEdge
  pub is_rotation : IsRotation edges v rotation
  pub long : behind ≡ first + length rotation
  pub within : behind ≤ length all
  pub stands : (k : ℕ) (h : HalfEdge) → slice_get rotation k ≡ Some h → (s : ℕ) × (slice_get all (first + k) ≡ Some s) × IsSide edges s h

-- the place in `all` at which the rotation of the vertex with the number v begins, or after the last vertex where all end
abbrev pub BeginsAt : List ℕ → ℕ → ℕ → Type 0
BeginsAt starts v first = slice_get starts v ≡ Some first

-- vertices; for each half-edge by number the vertex that it leaves; all half-edges vertex by vertex; and where each vertex's begin
pub record IsLayout (edges : List Edge) (vertices : List Point) (origins all starts : List ℕ) : Type 0 where
  pub are_vertices : AreVertices edges vertices
  pub as_many : length origins ≡ length (half_edges_of edges)
  pub leaves : (s : ℕ) (h : HalfEdge) → IsSide edges s h → (v : ℕ) × (slice_get origins s ≡ Some v) × (slice_get vertices v ≡ Some h.from)
  pub one_more : length starts ≡ length vertices + 1
  pub rotations : (v first behind : ℕ) (p : Point) → slice_get vertices v ≡ Some p → BeginsAt starts v first → BeginsAt starts (v + 1) behind → IsRotationAt edges p all first behind

-- by number of a half-edge: its place in the rotation of its vertex
abbrev pub ArePositions : List Edge → List ℕ → Type 0
ArePositions edges positions =
    (s : ℕ) (h : HalfEdge) → IsSide edges s h → (rotation : List HalfEdge) → IsRotation edges h.from rotation →
    (k : ℕ) × (slice_get positions s ≡ Some k) × (slice_get rotation k ≡ Some h)
