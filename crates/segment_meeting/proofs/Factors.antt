-- What a product says of its factors.
use Rattle.std.proofs.Common.{arith, ◌≡◌, zero, ◌<◌, ℤ, pos, ◌-ℤ◌, ◌*ℤ◌, ◌<ℤ◌, ◌⊎◌, inl, inr}
use Rattle.std.specs.Prelude.{neg_ℤ, unsigned_abs}
use Rattle.std.proofs.lemmas.Int.{ints, by_lt_z, unsigned_abs-mul}
use Rattle.std.proofs.lemmas.Bool.{cases_lt}
use Rattle.std.proofs.Math.Nat.{mul-pos}
use Rattle.nest_base.proofs.Differences.{diff_of, diffs, diff_same, neg-mul}
use Rattle.nest_base.proofs.Signs.{mul_nonneg}

pub sub-mul : (a b w : ℤ) → (a -ℤ b) *ℤ w ≡ a *ℤ w -ℤ b *ℤ w
sub-mul a b w = rw (diff_of w, diff_of a, diff_of b) (simp diffs (diff_same _ _ _ _ (omega arith)))

-- two numbers are one or not
pub same_or_not : (a b : ℤ) → (a ≡ b) ⊎ (a ≡ b → ⊥)
same_or_not a b = by_lt_z a b (λ h. inr (λ e. omega (arith, ints, e))) (λ h. by_lt_z b a (λ g. inr (λ e. omega (arith, ints, e))) (λ g. inl (omega (arith, ints))))

pub same_unless : (a b : ℤ) → ((a ≡ b → ⊥) → ⊥) → a ≡ b
same_unless a b not_apart = elim (same_or_not a b) [ inl e ↦ e | inr apart ↦ absurd (not_apart apart) ]

-- a factor of 0 beside one that isn't 0
pub zero_factor : (a z : ℤ) → (a ≡ pos 0 → ⊥) → a *ℤ z ≡ pos 0 → z ≡ pos 0
zero_factor a z apart e = elim (same_or_not z (pos 0)) [
  | inl none ↦ none
  | inr some ↦ absurd (omega (arith, ints, e, unsigned_abs-mul a z, mul-pos (nonzero_abs a apart) (nonzero_abs z some)))
]
  where
    nonzero_abs : (k : ℤ) → (k ≡ pos 0 → ⊥) → zero < unsigned_abs k
    nonzero_abs k some = elim (cases_lt zero (unsigned_abs k)) [ inl h ↦ h | inr h ↦ absurd (some (omega (arith, ints, h))) ]

-- the sign of the other factor beside a positive one
pub positive_factor : (a w : ℤ) → pos 0 <ℤ w → pos 0 <ℤ (a *ℤ w) → pos 0 <ℤ a
positive_factor a w some h = by_lt_z (pos 0) a (λ g. g) (λ low. absurd (omega (arith, ints, h, neg-mul a w, mul_nonneg (neg_ℤ a) w (omega (arith, ints)) (omega (arith, ints)))))

pub negative_factor : (a w : ℤ) → pos 0 <ℤ w → (a *ℤ w) <ℤ pos 0 → a <ℤ pos 0
negative_factor a w some h = by_lt_z a (pos 0) (λ g. g) (λ high. absurd (omega (arith, ints, h, mul_nonneg a w high (omega (arith, ints)))))
