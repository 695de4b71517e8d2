-- Components by number, each with its parent's number or none, and the order in which they burn.
use Rattle.std.specs.Prelude.{◌≡◌, ℕ, ◌<◌, ◌≤◌, List, ◌∷◌, ◌++◌, Option, Some, Contains, length, slice_get}

-- p is the parent of c
abbrev pub LiesIn : List (Option ℕ) → ℕ → ℕ → Type 0
LiesIn parents c p = slice_get parents c ≡ Some (Some p)

-- each component's number is greater than its parent's
abbrev pub ParentsComeFirst : List (Option ℕ) → Type 0
ParentsComeFirst parents = (c p : ℕ) → LiesIn parents c p → p < c

-- once these are finished c is ready: it isn't finished itself, and all that lie in it are
pub record IsReadyAfter (parents : List (Option ℕ)) (finished : List ℕ) (c : ℕ) : Type 0 where
  pub within : c < length parents
  pub unfinished : Contains finished c → ⊥
  pub children : (k : ℕ) → LiesIn parents k c → Contains finished k

-- at each turn the least of those that are ready, until all are finished
pub record IsBurningOrder (parents : List (Option ℕ)) (order : List ℕ) : Type 0 where
  pub ready : (finished : List ℕ) (c : ℕ) (later : List ℕ) → order ≡ finished ++ c ∷ later → IsReadyAfter parents finished c
  pub least : (finished : List ℕ) (c : ℕ) (later : List ℕ) → order ≡ finished ++ c ∷ later →
      (d : ℕ) → IsReadyAfter parents finished d → c ≤ d
  pub all : (c : ℕ) → c < length parents → Contains order c

-- so far at each turn the least of those that are ready
pub record IsFront (parents : List (Option ℕ)) (order : List ℕ) : Type 0 where
  pub ready : (finished : List ℕ) (c : ℕ) (later : List ℕ) → order ≡ finished ++ c ∷ later → IsReadyAfter parents finished c
  pub least : (finished : List ℕ) (c : ℕ) (later : List ℕ) → order ≡ finished ++ c ∷ later →
      (d : ℕ) → IsReadyAfter parents finished d → c ≤ d
