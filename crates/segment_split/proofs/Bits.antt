-- What the code computes in 128 bits is exact, as long as its numbers are small.
use Rattle.std.proofs.Common.{arith, ◌≡◌, ◌<◌, ◌^◌, ℤ, pos, ◌+ℤ◌, ◌-ℤ◌, FitsSigned, to_z, of_z, IsTrue, ◌↔◌, nat_eq, ap, sym, ◌∙◌, eq-eqb}
use Rattle.std.specs.Prelude.{unsigned_abs, neg_ℤ}
use Rattle.std.specs.Int.{w64, w128}
use Rattle.std.proofs.lemmas.Int.{ints, to_z-of_z, fits_signed_from_abs}
use Rattle.std.proofs.lemmas.Bool.{eqb-true}
use Rattle.nest_base.specs.Range.{IsNear, widest}

-- the negation of a number is exact
pub neg-fits : (a : ℤ) → unsigned_abs a < 2 ^ 66 → FitsSigned w128 (pos 0 -ℤ to_z w128 (of_z w128 a))
neg-fits a small = omega (arith, ints)

pub neg_exact : (a : ℤ) → unsigned_abs a < 2 ^ 66 → to_z w128 (of_z w128 (pos 0 -ℤ to_z w128 (of_z w128 a))) ≡ neg_ℤ a
neg_exact a small = omega (arith, ints, neg-fits a small)

-- a product that makes a coordinate fits 128 bits
pub product-fits : (a : ℤ) → unsigned_abs a < 2 ^ 98 → FitsSigned w128 a
product-fits a small = fits_signed_from_abs w128 a (omega arith)

-- the sum of two such products is exact
pub add-fits : (a b : ℤ) → unsigned_abs a < 2 ^ 98 → unsigned_abs b < 2 ^ 98 → FitsSigned w128 (to_z w128 (of_z w128 a) +ℤ to_z w128 (of_z w128 b))
add-fits a b p q = omega (arith, ints)

pub add_exact : (a b : ℤ) → unsigned_abs a < 2 ^ 98 → unsigned_abs b < 2 ^ 98 → to_z w128 (of_z w128 (to_z w128 (of_z w128 a) +ℤ to_z w128 (of_z w128 b))) ≡ a +ℤ b
add_exact a b p q = omega (arith, ints, add-fits a b p q)

-- numbers are one where their bits are
pub same_bits : (a b : ℤ) → FitsSigned w128 a → FitsSigned w128 b → IsTrue (nat_eq (of_z w128 a) (of_z w128 b)) ↔ (a ≡ b)
same_bits a b p q = (
  λ same. sym (to_z-of_z w128 a p) ∙ ap (to_z w128) (eqb-true (of_z w128 a) (of_z w128 b) same) ∙ to_z-of_z w128 b q,
  λ same. eq-eqb (of_z w128 a) (of_z w128 b) (ap (of_z w128) same),
)

-- a coordinate within the range is read back from 128 bits and from 64
pub near_read : (z : ℤ) → IsNear widest z → to_z w128 (of_z w128 z) ≡ z
near_read z near = omega (arith, ints)

pub near_cast : (z : ℤ) → IsNear widest z → to_z w64 (of_z w64 (to_z w128 (of_z w128 z))) ≡ z
near_cast z near = omega (arith, ints)
