-- Sums and products that fit 128 bits.
use Rattle.std.proofs.Common.{arith, ◌≡◌, ℕ, ◌<◌, ◌≤◌, ◌^◌, ℤ, pos, negsuc, ◌+ℤ◌, ◌-ℤ◌, ◌*ℤ◌, ◌<ℤ◌, FitsSigned, to_z, of_z, lit<}
use Rattle.std.specs.Prelude.{unsigned_abs, neg_ℤ}
use Rattle.std.specs.Int.{w64, w128}
use Rattle.std.proofs.lemmas.Int.{to_z-of_z, ints, fits_signed_from_abs, fits_signed_mul}

-- a small number lies between its bounds
pub between_abs : (z : ℤ) (n : ℕ) → unsigned_abs z < n → (neg_ℤ (pos n) <ℤ z) × (z <ℤ pos n)
between_abs (pos k) n h = (omega (arith, ints), omega (arith, ints))
between_abs (negsuc k) n h = (omega (arith, ints), omega (arith, ints))

-- the difference of two numbers below 2 ^ 66 fits
pub fits-sub : (a b : ℤ) → unsigned_abs a < 2 ^ 66 → unsigned_abs b < 2 ^ 66 → FitsSigned w128 (a -ℤ b)
fits-sub a b p q = omega (arith, ints, between_abs a (2 ^ 66) p, between_abs b (2 ^ 66) q)

fits_abs : (a : ℤ) → unsigned_abs a < 2 ^ 66 → FitsSigned w128 a
fits_abs a p = fits_signed_from_abs w128 a (omega (arith, p))

-- so the code's difference of the two is exact
pub sub_exact : (a b : ℤ) → unsigned_abs a < 2 ^ 66 → unsigned_abs b < 2 ^ 66 → to_z w128 (of_z w128 (to_z w128 (of_z w128 a) -ℤ to_z w128 (of_z w128 b))) ≡ a -ℤ b
sub_exact a b p q = rw (to_z-of_z w128 a (fits_abs a p), to_z-of_z w128 b (fits_abs b q)) (to_z-of_z w128 (a -ℤ b) (fits-sub a b p q))

-- the sum of two numbers below 2 ^ 66 fits
pub fits-add : (a b : ℤ) → unsigned_abs a < 2 ^ 66 → unsigned_abs b < 2 ^ 66 → FitsSigned w128 (a +ℤ b)
fits-add a b p q = omega (arith, ints, between_abs a (2 ^ 66) p, between_abs b (2 ^ 66) q)

pub add_exact : (a b : ℤ) → unsigned_abs a < 2 ^ 66 → unsigned_abs b < 2 ^ 66 → to_z w128 (of_z w128 (to_z w128 (of_z w128 a) +ℤ to_z w128 (of_z w128 b))) ≡ a +ℤ b
add_exact a b p q = rw (to_z-of_z w128 a (fits_abs a p), to_z-of_z w128 b (fits_abs b q)) (to_z-of_z w128 (a +ℤ b) (fits-add a b p q))

abs-within : (z : ℤ) → FitsSigned w64 z → unsigned_abs z ≤ 2 ^ 63
abs-within (pos k) h = omega (arith, ints, h)
abs-within (negsuc k) h = omega (arith, ints, h)

-- the product of two numbers of 64 bits fits
pub fits-mul : (a b : ℤ) → FitsSigned w64 a → FitsSigned w64 b → FitsSigned w128 (a *ℤ b)
fits-mul a b p q = fits_signed_mul w128 a b (2 ^ 63) (2 ^ 63) (abs-within a p) (abs-within b q) (lit< tt)

-- so the code's product of the two is exact
pub mul_exact : (a b : ℤ) → FitsSigned w64 a → FitsSigned w64 b → to_z w128 (of_z w128 (a *ℤ b)) ≡ a *ℤ b
mul_exact a b p q = to_z-of_z w128 (a *ℤ b) (fits-mul a b p q)
