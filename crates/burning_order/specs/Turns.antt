-- How far the order is found when the turn of a component comes, and for how many others each component still waits.
use Rattle.std.specs.Prelude.{◌≡◌, ℕ, ◌+◌, ◌==◌, ◌<◌, ◌≤◌, Bool, false, cond, List, [], ◌∷◌, Option, None, Some, Contains, length, slice_get}
use Rattle.std.specs.Set.{is_member}
use Rattle.std.specs.Bool.{nat_eq}
use Rattle.plate_nesting.specs.Order.{IsReadyAfter, IsFront}

-- whether p is this parent
abbrev pub is_parent : Option ℕ → ℕ → Bool
is_parent None p = false
is_parent (Some q) p = q == p

-- 1 as long as k isn't finished
abbrev pub unfinished : List ℕ → ℕ → ℕ
unfinished finished k = cond (is_member nat_eq finished k) 0 1

-- the components from first on have these parents: how much those weigh that lie in p
abbrev pub weight_from : (ℕ → ℕ) → ℕ → List (Option ℕ) → ℕ → ℕ
weight_from weight first [] p = 0
weight_from weight first (parent ∷ parents) p = cond (is_parent parent p) (weight first) 0 + weight_from weight (first + 1) parents p

-- how many that lie in p aren't finished
abbrev pub waiting_for : List (Option ℕ) → List ℕ → ℕ → ℕ
waiting_for parents finished p = weight_from (unfinished finished) 0 parents p

-- waiting has, of each component, how many that lie in it aren't finished
pub record AreWaitedFor (parents : List (Option ℕ)) (finished waiting : List ℕ) : Type 0 where
  pub as_many : length waiting ≡ length parents
  pub each : (p : ℕ) → p < length parents → slice_get waiting p ≡ Some (waiting_for parents finished p)

-- each component below c has had its turn: none of them is ready still, and they alone are finished
pub record HaveHadTurns (parents : List (Option ℕ)) (c : ℕ) (finished waiting : List ℕ) : Type 0 where
  pub front : IsFront parents finished
  pub counted : AreWaitedFor parents finished waiting
  pub had : (d : ℕ) → IsReadyAfter parents finished d → c ≤ d
  pub below : (d : ℕ) → Contains finished d → d < c
