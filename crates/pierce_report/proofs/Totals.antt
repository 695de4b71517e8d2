-- Sums of ones and zeros over the places of a list count the things that stand there.
use Rattle.std.proofs.Common.{arith, ◌≡◌, ◌⊎◌, inl, inr, ℕ, zero, suc, ◌+◌, List, [], ◌∷◌, length, refl}
use Rattle.std.specs.Prelude.{Some, slice_get}
use Rattle.nest_base.specs.Selection.{none, taken, passed, HasCount}
use Rattle.rotation_systems.specs.RotationSystem.{total}

total_from_first : (f : ℕ → ℕ) (n : ℕ) → total f (suc n) ≡ f 0 + total (λ k. f (suc k)) n
total_from_first f zero = omega arith
total_from_first f (suc n) = omega (arith, total_from_first f n)

-- f is 1 at each place where a thing stands that has P, and 0 at each other
pub HasCount-total : {X : Type 0} (P : X → Type 0) (xs : List X) (f : ℕ → ℕ) →
    ((k : ℕ) (x : X) → slice_get xs k ≡ Some x → (P x × (f k ≡ 1)) ⊎ ((P x → ⊥) × (f k ≡ 0))) → HasCount P xs (total f (length xs))
HasCount-total P [] f tells = ([], none, refl)
HasCount-total P (x ∷ xs) f tells =
    let rest = HasCount-total P xs (λ k. f (suc k)) (λ k y at. tells (suc k) y at) in
    let all = total_from_first f (length xs) in
    elim (tells 0 x refl) [
      | inl (has, one) ↦ (x ∷ rest.0, taken has rest.1, omega (arith, rest.2, all, one))
      | inr (lacks, nothing) ↦ (rest.0, passed lacks rest.1, omega (arith, rest.2, all, nothing))
    ]

pub total_ones : (n : ℕ) → total (λ _. 1) n ≡ n
total_ones zero = refl
total_ones (suc n) = omega (arith, total_ones n)
