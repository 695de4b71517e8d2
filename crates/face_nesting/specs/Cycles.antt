-- Boundary cycles of faces: half-edges in which each goes along to the next, and the last one to the first.
use Rattle.std.specs.Prelude.{◌≡◌, ◌≢◌, ◌↔◌, ℕ, ◌+◌, ◌<◌, List, [], ◌∷◌, ◌++◌, All, AllPairs, Contains, Some, Bool, true, length, slice_get, flat_map}
use Rattle.std.specs.List.{AllAdjacentBelow, AllZip}
use Rattle.nest_base.specs.Walks.{Walk}
use Rattle.rotation_systems.specs.RotationSystem.{RotationSystem, along}

-- s goes along to t
abbrev pub GoesTo : RotationSystem → ℕ → ℕ → Type 0
GoesTo g s t = along g s ≡ t

-- one leads to the other along a cycle
abbrev pub OnOneCycle : RotationSystem → ℕ → ℕ → Type 0
OnOneCycle g s t = Walk (GoesTo g) t s

-- the cycle that begins with `first`: each goes along to the next, the last one to the first, and none stands twice
pub record IsCycleFrom (g : RotationSystem) (first : ℕ) (cycle : List ℕ) : Type 0 where
  pub begins : slice_get cycle 0 ≡ Some first
  pub goes_round : AllAdjacentBelow (GoesTo g) (cycle ++ first ∷ []) (length cycle + 1)
  pub once : AllPairs (λ s t. s ≢ t) cycle

-- where each cycle begins in the list of all, and where the last one ends
abbrev pub offsets : ℕ → List (List ℕ) → List ℕ
offsets n [] = n ∷ []
offsets n (cycle ∷ cycles) = n ∷ offsets (n + length cycle) cycles

-- cycles from these half-edges on, one behind the other in `sides`; and by number of a half-edge the number of its cycle
pub record AreCyclesOf (g : RotationSystem) (heads cycle_of sides starts : List ℕ) : Type 0 where
  pub cycles : List (List ℕ)
  pub each : AllZip (IsCycleFrom g) heads cycles
  pub are_sides : sides ≡ flat_map (λ cycle. cycle) cycles
  pub are_starts : starts ≡ offsets 0 cycles
  pub within : All (λ s. s < g.sides) sides
  pub once : AllPairs (λ s t. s ≢ t) sides
  pub as_many : length cycle_of ≡ g.sides
  pub numbered : (r s : ℕ) (cycle : List ℕ) → slice_get cycles r ≡ Some cycle → Contains cycle s → slice_get cycle_of s ≡ Some r

-- those half-edges are told that stand in a cycle
pub record AreTold (g : RotationSystem) (is_traced : List Bool) (sides : List ℕ) : Type 0 where
  pub as_many : length is_traced ≡ g.sides
  pub told : (s : ℕ) → (slice_get is_traced s ≡ Some true) ↔ Contains sides s

-- all cycles of a graph, those from these half-edges on first
pub record AreAllCycles (g : RotationSystem) (firsts cycle_of sides starts : List ℕ) : Type 0 where
  pub rest : List ℕ
  pub are_cycles : AreCyclesOf g (firsts ++ rest) cycle_of sides starts
  pub all : (s : ℕ) → s < g.sides → Contains sides s
