-- Where the cover of a component starts, which is where its burning ends.
use Rattle.std.specs.Prelude.{◌≡◌, ◌≤◌, ◌⊎◌, ℕ, List, Option, Some, None, Contains, slice_get}
use Rattle.nest_base.specs.declared.numbers.Side.{Side}
use Rattle.half_edges.specs.Graph.{Graph, origin_of}
use Rattle.cover_plan.specs.Laws.{LeavesOdd}

-- s leaves an odd vertex; of the vertices that are left so its own comes first, and of the half-edges that leave that one it stands first
pub record IsFirstOdd (graph : Graph) (sides : List ℕ) (s : ℕ) : Type 0 where
  pub place : ℕ
  pub stands : slice_get sides place ≡ Some s
  pub odd : LeavesOdd graph s
  pub least : (t : ℕ) → Contains sides t → LeavesOdd graph t → origin_of graph s ≤ origin_of graph t
  pub earliest : (k t : ℕ) → slice_get sides k ≡ Some t → LeavesOdd graph t → origin_of graph t ≡ origin_of graph s → place ≤ k

abbrev pub NoneLeavesOdd : Graph → List ℕ → Type 0
NoneLeavesOdd graph sides = (t : ℕ) → Contains sides t → LeavesOdd graph t → ⊥

-- the first of these half-edges that leave odd vertices, or none
abbrev pub FirstOddIs : Graph → List ℕ → Option Side → Type 0
FirstOddIs graph sides None = NoneLeavesOdd graph sides
FirstOddIs graph sides (Some s) = IsFirstOdd graph sides s.0

-- the first of the outer sides that leave an odd vertex; where none does, the mark side
abbrev pub IsFirstStart : Graph → List ℕ → ℕ → Type 0
IsFirstStart graph cycle s = IsFirstOdd graph cycle s ⊎ (NoneLeavesOdd graph cycle × (slice_get cycle 0 ≡ Some s))

-- a half-edge of the outer cycle, which leaves an odd vertex if any of them does
pub record IsLawfulStart (graph : Graph) (cycle : List ℕ) (s : ℕ) : Type 0 where
  pub stands : Contains cycle s
  pub odd : (t : ℕ) → Contains cycle t → LeavesOdd graph t → LeavesOdd graph s
