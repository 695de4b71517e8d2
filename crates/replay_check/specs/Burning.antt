-- What edge moves burn, by numbers of half-edges and of faces.
use Rattle.std.specs.Prelude.{◌≡◌, ◌⊎◌, ◌↔◌, ℕ, Bool, false, IsTrue, ◌+◌, ◌<◌, List, map, length, take, drop, slice_get, slice_index, slice_index_or, Some, Contains, AllPairs}
use Rattle.std.specs.List.{AllZip}
use Rattle.nest_base.specs.declared.places.Edge.{Edge}
use Rattle.nest_base.specs.Selection.{Selects}
use Rattle.plate_edges.specs.Edges.{IsEdgeBefore}
use Rattle.rotation_systems.specs.Twins.{twin_number}
use Rattle.half_edges.specs.Numbers.{IsSide}
use Rattle.half_edges.specs.Burns.{HasEdgeOf, AreOfTwoEdges}
use Rattle.face_nesting.specs.Numbering.{outer_face}
use Rattle.code_moves.specs.declared.moves.Move.{Move}
use Rattle.code_moves.specs.Moves.{way}
use Rattle.sound_code.specs.Sound.{IsEdgeMove}
use Rattle.replay_check.specs.declared.burns.Burn.{Burn}

-- the half-edges that are burnt, by number
abbrev pub burnt_sides : List Burn → List ℕ
burnt_sides burns = map (λ (b : Burn). b.side.0) burns

-- b is what the edge move m burns, with its line
abbrev pub IsBurn : List Edge → Move → Burn → Type 0
IsBurn edges m b = IsSide edges b.side.0 (way m) × (b.line ≡ m.line)

-- what the edge moves burn, in order
pub record AreBurnt (edges : List Edge) (moves : List Move) (burns : List Burn) : Type 0 where
  pub edge_moves : List Move
  pub all : Selects (IsEdgeMove edges) moves edge_moves
  pub each : AllZip (IsBurn edges) edge_moves burns

-- f is the outer face, or that of one of these half-edges or its twin
abbrev pub IsFaceReached : List ℕ → List ℕ → ℕ → Type 0
IsFaceReached faces sides f = (f ≡ outer_face) ⊎ ((s : ℕ) × Contains sides s × ((slice_index faces s ≡ f) ⊎ (slice_index faces (twin_number s) ≡ f)))

-- by number of a face whether it is reached
pub record AreReached (faces : List ℕ) (count : ℕ) (sides : List ℕ) (flags : List Bool) : Type 0 where
  pub as_many : length flags ≡ count
  pub flag : (f : ℕ) → f < count → IsTrue (slice_index_or flags f false) ↔ IsFaceReached faces sides f

-- the edge at place k has a half-edge in a face that the later ones reach
abbrev pub GrowsAt : List ℕ → List ℕ → ℕ → Type 0
GrowsAt faces sides k = (s : ℕ) × (slice_get sides k ≡ Some s)
    × (IsFaceReached faces (drop (k + 1) sides) (slice_index faces s) ⊎ IsFaceReached faces (drop (k + 1) sides) (slice_index faces (twin_number s)))

-- the last edge with no half-edge in a face that the later ones reach was burnt on this line
pub record IsLastCut (faces : List ℕ) (burns : List Burn) (line : ℕ) : Type 0 where
  pub place : ℕ
  pub burn : Burn
  pub at : slice_get burns place ≡ Some burn
  pub line_is : burn.line ≡ line
  pub cut : GrowsAt faces (burnt_sides burns) place → ⊥
  pub later : (k : ℕ) → place < k → k < length burns → GrowsAt faces (burnt_sides burns) k

-- each edge has one
abbrev pub GrowsThroughout : List ℕ → List Burn → Type 0
GrowsThroughout faces burns = (k : ℕ) → k < length burns → GrowsAt faces (burnt_sides burns) k

-- the first half-edge whose edge is burnt already was burnt on this line
pub record IsFirstAgain (burns : List Burn) (line : ℕ) : Type 0 where
  pub place : ℕ
  pub burn : Burn
  pub at : slice_get burns place ≡ Some burn
  pub line_is : burn.line ≡ line
  pub again : HasEdgeOf (take place (burnt_sides burns)) burn.side.0
  pub once_before : AllPairs AreOfTwoEdges (take place (burnt_sides burns))

-- e is the edge at place k, and isn't burnt
abbrev pub IsUnburntAt : List Edge → List Bool → ℕ → Edge → Type 0
IsUnburntAt edges flags k e = (slice_get edges k ≡ Some e) × (slice_get flags k ≡ Some false)

-- e is the least of those that aren't
pub record IsLeastUnburnt (edges : List Edge) (flags : List Bool) (e : Edge) : Type 0 where
  pub place : ℕ
  pub unburnt : IsUnburntAt edges flags place e
  pub least : (k : ℕ) (f : Edge) → IsUnburntAt edges flags k f → IsEdgeBefore f e → ⊥
