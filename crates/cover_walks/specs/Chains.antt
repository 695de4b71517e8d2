-- How an order is cut into chains, each of which is burnt without a break.
use Rattle.std.specs.Prelude.{◌≡◌, ℕ, ◌<◌, List, [], ◌∷◌, suc, zero, cond, ◌==◌, Bool, true, false}
use Rattle.rotation_systems.specs.RotationSystem.{RotationSystem, to}

-- some half-edges, each of which leaves the vertex to which the one before it leads
abbrev pub IsSideChain : RotationSystem → List ℕ → Type 0
IsSideChain g [] = ⊥
IsSideChain g (a ∷ []) = Unit {0}
IsSideChain g (a ∷ b ∷ l) = (to g a ≡ g.from b) × IsSideChain g (b ∷ l)

-- a is put before the first chain, where it leads there, or is a chain of its own
abbrev pub before_chains : RotationSystem → ℕ → List (List ℕ) → List (List ℕ)
before_chains g a [] = (a ∷ []) ∷ []
before_chains g a ([] ∷ rest) = (a ∷ []) ∷ rest
before_chains g a ((b ∷ chain) ∷ rest) = cond (to g a == g.from b) ((a ∷ b ∷ chain) ∷ rest) ((a ∷ []) ∷ (b ∷ chain) ∷ rest)

-- an order, cut at its breaks
abbrev pub chains_of : RotationSystem → List ℕ → List (List ℕ)
chains_of g [] = []
chains_of g (a ∷ l) = before_chains g a (chains_of g l)

-- half-edges lead from the root to a vertex
pub data Linked (g : RotationSystem) (root : ℕ) : ℕ → Type 0 where
  at_root : Linked g root root
  over : {s : ℕ} → s < g.sides → Linked g root (g.from s) → Linked g root (to g s)

-- half-edges lead from the root to each vertex of its component that one leaves
abbrev pub IsConnected : RotationSystem → (ℕ → ℕ) → ℕ → Type 0
IsConnected g component root = (s : ℕ) → s < g.sides → component (g.from s) ≡ component root → Linked g root (g.from s)

-- the most chains that a component with this many odd vertices may need; `outer` says whether one of them lies outside
abbrev pub limit_of : ℕ → Bool → ℕ
limit_of zero outer = 1
limit_of (suc n) true = n
limit_of (suc n) false = suc n
