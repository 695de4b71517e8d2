-- How an order is cut into chains: a rule says of two vertices whether a chain that leads to the one goes on from the other.
use Rattle.std.specs.Prelude.{◌≡◌, ℕ, suc, ◌==◌, Bool, cond, List, [], ◌∷◌}
use Rattle.nest_base.specs.declared.numbers.VertexId.{VertexId}
use Rattle.rotation_systems.specs.RotationSystem.{RotationSystem, to}

-- how many half-edges from the first one on stand in its chain
abbrev pub chain_length : (ℕ → ℕ → Bool) → RotationSystem → List ℕ → ℕ
chain_length rule g [] = 0
chain_length rule g (a ∷ []) = 1
chain_length rule g (a ∷ b ∷ rest) = cond (rule (to g a) (g.from b)) (suc (chain_length rule g (b ∷ rest))) 1

-- a is put before the first chain, where it goes on there, or is a chain of its own
abbrev pub before_by : (ℕ → ℕ → Bool) → RotationSystem → ℕ → List (List ℕ) → List (List ℕ)
before_by rule g a [] = (a ∷ []) ∷ []
before_by rule g a ([] ∷ rest) = (a ∷ []) ∷ rest
before_by rule g a ((b ∷ chain) ∷ rest) = cond (rule (to g a) (g.from b)) ((a ∷ b ∷ chain) ∷ rest) ((a ∷ []) ∷ (b ∷ chain) ∷ rest)

-- an order, cut where the rule says no
abbrev pub chains_by : (ℕ → ℕ → Bool) → RotationSystem → List ℕ → List (List ℕ)
chains_by rule g [] = []
chains_by rule g (a ∷ l) = before_by rule g a (chains_by rule g l)

-- whatever a test answers, the rule says
abbrev pub AnswersBy : (VertexId → VertexId → Bool → Type 0) → (ℕ → ℕ → Bool) → Type 0
AnswersBy gives rule = (to from : VertexId) (answer : Bool) → gives to from answer → answer ≡ rule to.0 from.0

-- a chain goes on from the vertex to which it leads, and from no other
abbrev pub meets : ℕ → ℕ → Bool
meets to from = to == from
