-- Components while they are being found: from one vertex on, its number spreads to its neighbours, and to theirs.
use Rattle.std.specs.Prelude.{◌≡◌, ◌≢◌, ◌⊎◌, ℕ, ◌+◌, ◌==◌, List, [], ◌∷◌, ◌++◌, length, slice_get, slice_index_or, slice_set, count_by, Some, Contains}
use Rattle.nest_base.specs.declared.numbers.Side.{Side}
use Rattle.nest_base.specs.declared.places.Point.{Point}
use Rattle.nest_base.specs.declared.places.Edge.{Edge}
use Rattle.plate_sides.specs.Components.{IsJoinedTo, SameComponent}
use Rattle.nest_base.specs.NumberLists.{vertex_numbers, side_numbers}
use Rattle.half_edges.specs.declared.layout.Layout.{Layout}
use Rattle.rotation_systems.specs.Twins.{twin_number}
use Rattle.half_edges.specs.Layouts.{IsLayout, IsRotationAt}

-- stands in place of a component's number where a vertex has none yet
abbrev pub none : ℕ
none = 4294967295

-- the number of the component of the vertex v
abbrev pub component_at : List ℕ → ℕ → ℕ
component_at components v = slice_index_or components v none

-- how many vertices have none
abbrev pub unnumbered : List ℕ → ℕ
unnumbered components = count_by (λ c. c == none) components

-- the vertex to which s leads
abbrev pub end_of : List ℕ → ℕ → ℕ
end_of origins s = slice_index_or origins (twin_number s) 0

-- an edge joins the vertices with these numbers
pub record Joins (edges : List Edge) (vertices : List Point) (v w : ℕ) : Type 0 where
  pub place : Point
  pub other : Point
  pub at_place : slice_get vertices v ≡ Some place
  pub at_other : slice_get vertices w ≡ Some other
  pub edge : IsJoinedTo edges place other

-- a number leads to the mark with that number; neighbours have one number, but for those of the vertices `pending`, which have the last
pub record IsFlood (edges : List Edge) (vertices : List Point) (components : List ℕ) (marks : List Point) (pending : List ℕ) : Type 0 where
  pub as_many : length components ≡ length vertices
  pub leads : (v : ℕ) (p : Point) → slice_get vertices v ≡ Some p → component_at components v ≢ none →
      (mark : Point) × (slice_get marks (component_at components v) ≡ Some mark) × SameComponent edges p mark
  pub closed : (v w : ℕ) → Joins edges vertices v w → (component_at components v ≡ none) ⊎ (component_at components v ≡ component_at components w) ⊎ Contains pending v
  pub last : (v : ℕ) → Contains pending v → component_at components v + 1 ≡ length marks

-- v gets the number c and waits, unless it had a number
abbrev pub GetsNumber : List ℕ → List ℕ → ℕ → ℕ → List ℕ → List ℕ → Type 0
GetsNumber components found v c later more =
    ((component_at components v ≡ none) × (later ≡ slice_set components v c) × (more ≡ found ++ v ∷ []))
    ⊎ ((component_at components v ≢ none) × (later ≡ components) × (more ≡ found))

-- vertices that have a number keep it
abbrev pub AreKept : List ℕ → List ℕ → Type 0
AreKept components later = (v : ℕ) → component_at components v ≢ none → component_at later v ≡ component_at components v

-- a layout of these edges, beside the list of all half-edges
abbrev pub IsLaidOut : Layout → List Side → List Edge → Type 0
IsLaidOut layout all edges =
    IsLayout edges layout.places.keys (vertex_numbers layout.origins.items) (side_numbers all) layout.starts.items

-- the half-edges in `sides` are those round the vertex v
abbrev pub AreRound : Layout → List Side → List Side → ℕ → Type 0
AreRound layout all sides v = (edges : List Edge) → IsLaidOut layout all edges → (p : Point) → slice_get layout.places.keys v ≡ Some p →
    IsRotationAt edges p (side_numbers sides) 0 (length (side_numbers sides))
