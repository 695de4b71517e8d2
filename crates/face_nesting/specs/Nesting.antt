-- The faces of a graph, and how its components lie in them.
use Rattle.std.specs.Prelude.{◌≡◌, ◌⊎◌, ◌↔◌, ℕ, ◌+◌, ◌-◌, ◌<◌, ◌≤◌, List, All, Contains, Option, Some, length, slice_get, slice_index, take, drop}
use Rattle.std.specs.List.{AllZip}
use Rattle.nest_base.specs.declared.places.Point.{Point}
use Rattle.nest_base.specs.declared.places.Edge.{Edge}
use Rattle.nest_base.specs.Plane.{HalfEdge}
use Rattle.nest_base.specs.Limits.{most_half_edges}
use Rattle.plate_sides.specs.Links.{Outer, At}
use Rattle.plate_sides.specs.Reach.{SameFace, IsRank}
use Rattle.plate_sides.specs.Nesting.{IsOuterCycle}
use Rattle.half_edges.specs.Numbers.{IsSide}
use Rattle.half_edges.specs.Graph.{Graph}
use Rattle.face_nesting.specs.Numbering.{outer_face}

pub record Nesting : Type 0 where
  -- by number of a half-edge: the number of its face
  pub faces : List ℕ
  -- how many faces there are
  pub count : ℕ
  -- by number of a face: its rank
  pub ranks : List ℕ
  -- by number of a component: that of its parent
  pub parents : List (Option ℕ)
  -- half-edges cycle by cycle, the outer sides of each component first; and where each cycle begins
  pub sides : List ℕ
  pub starts : List ℕ

-- the half-edges of one cycle
abbrev pub cycle_at : Nesting → ℕ → List ℕ
cycle_at nesting c = take (slice_index nesting.starts (c + 1) - slice_index nesting.starts c) (drop (slice_index nesting.starts c) nesting.sides)

-- what holds of the lists
pub record IsNesting (nesting : Nesting) : Type 0 where
  pub some : 0 < nesting.count
  pub fits : nesting.count ≤ most_half_edges + 1
  pub ranked : length nesting.ranks ≡ nesting.count
  pub cycles : length nesting.parents < length nesting.starts
  pub rising : (c : ℕ) → c < length nesting.parents → slice_index nesting.starts c < slice_index nesting.starts (c + 1)
  pub within : (c : ℕ) → c < length nesting.parents → slice_index nesting.starts (c + 1) ≤ length nesting.sides

-- two half-edges have one face number exactly where links within faces join them, and that of the outer face where these join one to Outer
pub record AreFaces (edges : List Edge) (faces : List ℕ) : Type 0 where
  pub joined : (s t : ℕ) (g h : HalfEdge) → IsSide edges s g → IsSide edges t h →
      (slice_index faces s ≡ slice_index faces t) ↔ SameFace edges (At g) (At h)
  pub outside : (s : ℕ) (h : HalfEdge) → IsSide edges s h → (slice_index faces s ≡ outer_face) ↔ SameFace edges (At h) Outer

-- there are so many faces: each number below is that of the outer face or of some half-edge's, and no half-edge has another
pub record IsFaceCount (faces : List ℕ) (count : ℕ) : Type 0 where
  pub outer_counts : outer_face < count
  pub below : All (λ f. f < count) faces
  pub each : (f : ℕ) → f < count → (f ≡ outer_face) ⊎ Contains faces f

-- ranks by number of a face: that of the outer one is 0, and that of the face of each half-edge the fewest edges to cross from there to Outer
pub record AreRanks (edges : List Edge) (faces ranks : List ℕ) : Type 0 where
  pub outer : slice_get ranks outer_face ≡ Some 0
  pub each : (s : ℕ) (h : HalfEdge) → IsSide edges s h → IsRank edges (At h) (slice_index ranks (slice_index faces s))

-- the numbers of the outer sides of the component with this mark vertex, round from the mark side on
abbrev pub AreOuterSides : List Edge → Point → List ℕ → Type 0
AreOuterSides edges mark sides = (cycle : List HalfEdge) × AllZip (IsSide edges) sides cycle × IsOuterCycle edges mark cycle

-- of each component
abbrev pub AreOuterCycles : Graph → Nesting → Type 0
AreOuterCycles graph nesting =
    (c : ℕ) (mark : Point) → slice_get graph.marks c ≡ Some mark → AreOuterSides graph.edges mark (cycle_at nesting c)
