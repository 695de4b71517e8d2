-- How many moves begin a lighting.
use Rattle.std.proofs.Common.{◌≡◌, ◌⊎◌, ℕ, Bool, true, false, List, inl, inr, refl, arith}
use Rattle.std.specs.Prelude.{IsTrue, cond}
use Rattle.std.specs.List.{count_by}
use Rattle.nest_base.specs.Selection.{HasCount}
use Rattle.nest_base.proofs.Selections.{HasCount-by_sum}

-- a test's count is that of what passes it
pub HasCount-by_count : {X : Type 0} (p : X → Bool) (xs : List X) → HasCount (λ x. IsTrue (p x)) xs (count_by p xs)
HasCount-by_count p xs = HasCount-by_sum (λ x. IsTrue (p x)) (λ x. cond (p x) 1 0) xs (λ x stands. of (p x))
  where
    of : (b : Bool) → (IsTrue b × ◌≡◌ {A = ℕ} (cond b 1 0) 1) ⊎ ((IsTrue b → ⊥) × ◌≡◌ {A = ℕ} (cond b 1 0) 0)
    of true = inl (refl, refl)
    of false = inr (λ is. grind (arith, is), refl)
