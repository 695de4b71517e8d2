-- Burning orders: lists of half-edges, the first burnt first. An edge is named by either of its half-edges.
use Rattle.std.specs.Prelude.{◌≡◌, ℕ, List, [], ◌∷◌, ◌⊎◌}
use Rattle.rotation_systems.specs.RotationSystem.{RotationSystem, along}

-- the edge of s stands in the list, by one of its half-edges
abbrev pub Has : RotationSystem → List ℕ → ℕ → Type 0
Has g [] s = ⊥
Has g (a ∷ l) s = (a ≡ s) ⊎ (g.twin a ≡ s) ⊎ Has g l s

-- no edge stands twice
abbrev pub Once : RotationSystem → List ℕ → Type 0
Once g [] = Unit {0}
Once g (a ∷ l) = (Has g l a → ⊥) × Once g l

-- links join s to an outer half-edge: along, either way, and across edges of the list
pub data Joined (g : RotationSystem) (Outer : ℕ → Type 0) (over : List ℕ) : ℕ → Type 0 where
  at_outer : {s : ℕ} → Outer s → Joined g Outer over s
  by_along : {s : ℕ} → Joined g Outer over (along g s) → Joined g Outer over s
  by_back : {s : ℕ} → Joined g Outer over s → Joined g Outer over (along g s)
  by_across : {s : ℕ} → Has g over s → Joined g Outer over (g.twin s) → Joined g Outer over s

-- just before each edge burns, it and the edges that burn later join both its half-edges to an outer one
abbrev pub Encloses : RotationSystem → (ℕ → Type 0) → List ℕ → Type 0
Encloses g Outer [] = Unit {0}
Encloses g Outer (a ∷ l) = Joined g Outer (a ∷ l) a × Joined g Outer (a ∷ l) (g.twin a) × Encloses g Outer l

-- s is an outer half-edge or one of these edges, or links along join it to such a one
pub data Reached (g : RotationSystem) (Outer : ℕ → Type 0) (by : List ℕ) : ℕ → Type 0 where
  outer : {s : ℕ} → Outer s → Reached g Outer by s
  here : {s : ℕ} → Has g by s → Reached g Outer by s
  ahead : {s : ℕ} → Reached g Outer by (along g s) → Reached g Outer by s
  behind : {s : ℕ} → Reached g Outer by s → Reached g Outer by (along g s)

-- each edge has a half-edge that the edges burnt later reach; so the order can be laid from its end, edge by edge
abbrev pub Grows : RotationSystem → (ℕ → Type 0) → List ℕ → Type 0
Grows g Outer [] = Unit {0}
Grows g Outer (a ∷ l) = (Reached g Outer l a ⊎ Reached g Outer l (g.twin a)) × Grows g Outer l
