-- Which edges are burnt, and in which order.
use Rattle.std.specs.Prelude.{◌≢◌, ◌⊎◌, ◌↔◌, ℕ, ◌*◌, ◌/◌, ◌<◌, Bool, false, List, length, slice_index_or, All, AllPairs, Contains, IsTrue}
use Rattle.rotation_systems.specs.Twins.{twin_number}
use Rattle.half_edges.specs.Graph.{Graph}

-- a half-edge of the edge of s is among these
abbrev pub HasEdgeOf : List ℕ → ℕ → Type 0
HasEdgeOf sides s = Contains sides s ⊎ Contains sides (twin_number s)

-- the half-edges are of two edges
abbrev pub AreOfTwoEdges : ℕ → ℕ → Type 0
AreOfTwoEdges s t = (s ≢ t) × (s ≢ twin_number t)

-- so many edges, and the half-edges of them that were burnt, in the order of burning
pub record Burning : Type 0 where
  pub edges : ℕ
  pub burnt : List ℕ

-- by number of an edge whether it is burnt: these are burnt, no edge twice
pub record AreFlagsOf (flags : List Bool) (burnt : List ℕ) : Type 0 where
  pub within : All (λ s. s < 2 * length flags) burnt
  pub once : AllPairs AreOfTwoEdges burnt
  pub flag : (s : ℕ) → s < 2 * length flags → IsTrue (slice_index_or flags (s / 2) false) ↔ HasEdgeOf burnt s

-- the edge of s is burnt
abbrev pub IsBurnt : Graph → ℕ → Type 0
IsBurnt graph s = HasEdgeOf graph.burnt s

-- the same graph with these half-edges burnt
abbrev pub with_burnt : Graph → List ℕ → Graph
with_burnt graph burnt = record graph { burnt = burnt }
