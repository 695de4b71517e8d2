-- The choice at a vertex: the next unburnt half-edge round it, one way or the other. `burnt` tells which half-edges are burnt.
use Rattle.std.specs.Prelude.{◌≡◌, ◌≢◌, ℕ, ◌<◌, suc, List, ◌++◌, ◌⊎◌, ◌↔◌, Bool, IsTrue}
use Rattle.rotation_systems.specs.RotationSystem.{RotationSystem, turn}
use Rattle.cover_walks.specs.Orders.{Has}
use Rattle.cover_walks.specs.Walks.{AllFinished, Touches}

-- at the vertex z those of the order are burnt
abbrev pub IsMarkedAt : RotationSystem → (ℕ → Bool) → ℕ → List ℕ → Type 0
IsMarkedAt g burnt z order = (s : ℕ) → s < g.sides → g.from s ≡ z → IsTrue (burnt s) ↔ Has g order s

-- some half-edge at v is unburnt
abbrev pub HasUnburnt : RotationSystem → (ℕ → Bool) → ℕ → Type 0
HasUnburnt g burnt v = (s : ℕ) × (s < g.sides) × (g.from s ≡ v) × (IsTrue (burnt s) → ⊥)

-- all half-edges at v are burnt
abbrev pub AllBurnt : RotationSystem → (ℕ → Bool) → ℕ → Type 0
AllBurnt g burnt v = (s : ℕ) → s < g.sides → g.from s ≡ v → IsTrue (burnt s)

-- k steps counterclockwise from s lead to t, and past none that is unburnt
pub record Turned (g : RotationSystem) (burnt : ℕ → Bool) (s k t : ℕ) : Type 0 where
  pub at : t ≡ turn g k s
  pub passed : (j : ℕ) → j < k → IsTrue (burnt (turn g (suc j) s))

-- k + 1 steps counterclockwise from a lead to t, and past none that is unburnt or is `avoid`; clockwise it's the same of the mirrored system
pub record Passes (g : RotationSystem) (burnt : ℕ → Bool) (a avoid k t : ℕ) : Type 0 where
  pub at : t ≡ turn g (suc k) a
  pub passed : (j : ℕ) → j < k → IsTrue (burnt (turn g (suc j) a)) × (turn g (suc j) a ≢ avoid)

-- t is the first counterclockwise after a that is unburnt or is `avoid`
pub record Stops (g : RotationSystem) (burnt : ℕ → Bool) (a avoid t : ℕ) : Type 0 where
  pub steps : ℕ
  pub passes : Passes g burnt a avoid steps t
  pub stops : (IsTrue (burnt t) → ⊥) ⊎ (t ≡ avoid)

-- a choice at z goes counterclockwise from `left` or clockwise from `right`: both are one half-edge of the stack, or the outer corner
-- lies between them
pub record IsReference (g : RotationSystem) (start : ℕ) (stack : List ℕ) (z left right : ℕ) : Type 0 where
  pub left_in : left < g.sides
  pub right_in : right < g.sides
  pub left_at : g.from left ≡ z
  pub right_at : g.from right ≡ z
  pub between : ((right ≡ left) × Has g stack left) ⊎ ((left ≡ start) × (right ≡ g.ccw start))

-- what holds at a vertex at which a choice is made; the half-edge that leads back along `avoid` is burnt
pub record CanChoose (g : RotationSystem) (burnt : ℕ → Bool) (avoid z : ℕ) (done stack : List ℕ) : Type 0 where
  pub marks : IsMarkedAt g burnt z (done ++ stack)
  pub finished : AllFinished g (done ++ stack) avoid done
  pub free : HasUnburnt g burnt z
  pub avoided : g.twin avoid < g.sides → IsTrue (burnt (g.twin avoid))

-- t leaves z, stands in neither list, and touches the stack
pub record IsChosen (g : RotationSystem) (start z : ℕ) (done stack : List ℕ) (t : ℕ) : Type 0 where
  pub side : t < g.sides
  pub leaves : g.from t ≡ z
  pub unused : Has g (done ++ stack) t → ⊥
  pub touches : Touches g start stack t
