-- What a finished cover of one component is.
use Rattle.std.specs.Prelude.{◌≡◌, ℕ, ◌+◌, ◌<◌, ◌≤◌, List, [], ◌⊎◌, length}
use Rattle.rotation_systems.specs.RotationSystem.{RotationSystem}
use Rattle.cover_walks.specs.Orders.{Has, Once, Encloses}
use Rattle.cover_walks.specs.Walks.{Inside, EndsAt, AreBelow, breaks, is_odd, odd_count}

-- the chains of the order are at most as many as the odd vertices of the component in which `start` lies, one less where the vertex
-- that start leaves is odd; or there is one chain, and that vertex is even
abbrev pub HasFewChains : RotationSystem → (ℕ → ℕ) → ℕ → List ℕ → Type 0
HasFewChains g component start order = (vertices : ℕ) → AreBelow g vertices →
    (breaks g order + 1 + is_odd g [] (g.from start) ≤ odd_count g component (component (g.from start)) vertices [])
    ⊎ ((breaks g order ≡ 0) × (is_odd g [] (g.from start) ≡ 0))

-- an order of all edges of the component in which `start` lies, each once
pub record IsEdgeOrder (g : RotationSystem) (component : ℕ → ℕ) (start : ℕ) (order : List ℕ) : Type 0 where
  pub some : 0 < length order
  pub inside : Inside g component (component (g.from start)) order
  pub once : Once g order
  pub whole : (s : ℕ) → s < g.sides → component (g.from s) ≡ component (g.from start) → Has g order s

-- such an order that is a cover: it encloses, ends at the vertex that start leaves, and has few chains
pub record IsCoverOrder (g : RotationSystem) (component : ℕ → ℕ) (start : ℕ) (order : List ℕ) : Type 0 where
  pub some : 0 < length order
  pub inside : Inside g component (component (g.from start)) order
  pub once : Once g order
  pub whole : (s : ℕ) → s < g.sides → component (g.from s) ≡ component (g.from start) → Has g order s
  pub encloses : Encloses g (λ s. s ≡ start) order
  pub last : EndsAt g (g.from start) order
  pub few : HasFewChains g component start order
