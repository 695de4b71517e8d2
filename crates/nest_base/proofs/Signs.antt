-- Signs of products of integers.
use Rattle.std.proofs.Common.{arith, ◌≡◌, ℤ, pos, negsuc, ◌+ℤ◌, ◌*ℤ◌, ◌<ℤ◌, ◌≤ℤ◌, sym}
use Rattle.std.specs.Prelude.{neg_ℤ}
use Rattle.std.proofs.lemmas.Int.{ints, by_lt_z}
use Rattle.std.proofs.Math.Nat.{mul-pos}
use Rattle.nest_base.proofs.Differences.{diff_of, diff_same, diffs, neg-mul}

pub mul_pos : (a b : ℤ) → pos 0 <ℤ a → pos 0 <ℤ b → pos 0 <ℤ (a *ℤ b)
mul_pos (pos m) (pos n) p q = omega (arith, ints, mul-pos {m = m} {n = n} (omega (arith, ints)) (omega (arith, ints)))
mul_pos (pos m) (negsuc n) p q = absurd (omega (arith, ints))
mul_pos (negsuc m) b p q = absurd (omega (arith, ints))

pub mul_nonneg : (a b : ℤ) → pos 0 ≤ℤ a → pos 0 ≤ℤ b → pos 0 ≤ℤ (a *ℤ b)
mul_nonneg (pos m) (pos n) p q = omega (arith, ints)
mul_nonneg (pos m) (negsuc n) p q = absurd (omega (arith, ints))
mul_nonneg (negsuc m) b p q = absurd (omega (arith, ints))

-- a mean of two positive numbers is positive
pub mean_pos : (u v f g : ℤ) → pos 0 ≤ℤ u → pos 0 ≤ℤ v → pos 0 <ℤ (u +ℤ v) → pos 0 <ℤ f → pos 0 <ℤ g → pos 0 <ℤ (u *ℤ f +ℤ v *ℤ g)
mean_pos u v f g p q r s t = by_lt_z (pos 0) u
    (λ up. omega (arith, ints, mul_pos u f up s, mul_nonneg v g q (omega (arith, ints))))
    (λ low. omega (arith, ints, mul_nonneg u f p (omega (arith, ints)), mul_pos v g (omega (arith, ints)) t))

-- the product of a positive and a negative number
pub mul_neg : (a b : ℤ) → pos 0 <ℤ a → b <ℤ pos 0 → (a *ℤ b) <ℤ pos 0
mul_neg a b p q = omega (arith, ints, neg-mul b a, mul_pos (neg_ℤ b) a (omega (arith, ints)) p)

pub mul_nonpos : (a b : ℤ) → pos 0 ≤ℤ a → b ≤ℤ pos 0 → (a *ℤ b) ≤ℤ pos 0
mul_nonpos a b p q = omega (arith, ints, neg-mul b a, mul_nonneg (neg_ℤ b) a (omega (arith, ints)) p)

pub neg-mul-neg : (a b : ℤ) → neg_ℤ a *ℤ neg_ℤ b ≡ a *ℤ b
neg-mul-neg a b = rw (diff_of a, diff_of b) (simp diffs (diff_same _ _ _ _ (omega arith)))

-- the product of two negative numbers
pub mul_neg_neg : (a b : ℤ) → a <ℤ pos 0 → b <ℤ pos 0 → pos 0 <ℤ (a *ℤ b)
mul_neg_neg a b p q = omega (arith, ints, neg-mul-neg a b, mul_pos (neg_ℤ a) (neg_ℤ b) (omega (arith, ints)) (omega (arith, ints)))

pub mul_nonpos_nonpos : (a b : ℤ) → a ≤ℤ pos 0 → b ≤ℤ pos 0 → pos 0 ≤ℤ (a *ℤ b)
mul_nonpos_nonpos a b p q = omega (arith, ints, neg-mul-neg a b, mul_nonneg (neg_ℤ a) (neg_ℤ b) (omega (arith, ints)) (omega (arith, ints)))

-- of two numbers one is less, or they are the same
pub by_order_z : {P : Type 0} (a b : ℤ) → (a <ℤ b → P) → (a ≡ b → P) → (b <ℤ a → P) → P
by_order_z a b less same greater = by_lt_z a b less (λ at_least. by_lt_z b a greater (λ at_most. same (omega (arith, ints))))

-- a number is positive, zero or negative
pub by_sign : {P : Type 0} (z : ℤ) → (pos 0 <ℤ z → P) → (z ≡ pos 0 → P) → (z <ℤ pos 0 → P) → P
by_sign z above at below = by_order_z (pos 0) z above (λ same. at (sym same)) below

-- no square is negative
pub square_nonneg : (a : ℤ) → pos 0 ≤ℤ (a *ℤ a)
square_nonneg a = by_lt_z a (pos 0)
    (λ low. mul_nonpos_nonpos a a (omega (arith, ints)) (omega (arith, ints)))
    (λ at_least. mul_nonneg a a at_least at_least)

-- the square of what isn't zero is positive
pub square_pos : (a : ℤ) → (a ≡ pos 0 → ⊥) → pos 0 <ℤ (a *ℤ a)
square_pos a some = by_sign a (λ above. mul_pos a a above above) (λ none. absurd (some none)) (λ below. mul_neg_neg a a below below)
