-- The nearest micrometre is one, and it's the one that a division gives.
use Rattle.std.proofs.Common.{arith, ◌≡◌, ℕ, ◌+◌, ◌*◌, ◌/◌, ◌%◌, ◌<◌, ◌≤◌, Bool, true, false, List, ℤ, pos, negsuc, ◌+ℤ◌, ◌-ℤ◌, ◌*ℤ◌, ◌<ℤ◌, ◌≤ℤ◌, Option, Some, None, refl, subst, ap, ◌∙◌}
use Rattle.std.specs.Prelude.{unsigned_abs, neg_ℤ}
use Rattle.std.specs.Option.{option_map}
use Rattle.std.proofs.lemmas.Int.{ints, by_lt_z, unsigned_abs-mul}
use Rattle.std.proofs.lemmas.Nat.{div-add-mod', mod_below}
use Rattle.nest_base.proofs.Differences.{diff_of, diffs, diff_same, neg-mul}
use Rattle.std.proofs.Math.Nat.{mul-le-mul_right}
use borrow.Author.Differences.{le_out}
use Rattle.micron_decimals.specs.Decimals.{Decimal, decimal_of, signed, raised, scale, top, down, IsNearest, IsNearestMicron, IsMicron, nearest_micron, micron_of}
use Rattle.micron_decimals.proofs.Capped.{power_pos}

add-mul : (a c b : ℤ) → (a +ℤ c) *ℤ b ≡ a *ℤ b +ℤ c *ℤ b
add-mul a c b = rw (diff_of a, diff_of c, diff_of b) (simp diffs (diff_same _ _ _ _ (omega arith)))

-- an order is kept by a factor that isn't negative
mul_le : (a b c : ℤ) → pos 0 ≤ℤ c → a ≤ℤ b → (a *ℤ c) ≤ℤ (b *ℤ c)
mul_le a b (pos n) p h = omega (arith, ints, mul-le-mul_right n (le_out a b h))
mul_le a b (negsuc n) p h = absurd (omega (arith, ints))

mul_le_pos : (a b : ℤ) (n : ℕ) → a ≤ℤ b → (a *ℤ pos n) ≤ℤ (b *ℤ pos n)
mul_le_pos a b n h = mul_le a b (pos n) (omega (arith, ints)) h

-- a step of one is a step of b after multiplying by b
times_step : (n m : ℤ) (b : ℕ) → n <ℤ m → (n *ℤ pos b +ℤ pos b) ≤ℤ (m *ℤ pos b)
times_step n m b h = omega (arith, ints, next n (pos b), mul_le_pos (n +ℤ pos 1) m b (omega (arith, ints, h)))
  where
    next : (a b : ℤ) → (a +ℤ pos 1) *ℤ b ≡ a *ℤ b +ℤ b
    next a b = omega (arith, ints, add-mul a (pos 1) b)

zero-mul : (b : ℕ) → pos 0 *ℤ pos b ≡ pos 0
zero-mul b = omega (arith, ints)

-- two numbers of the grid of b, both nearest to t, are neighbours, and t lies half way
half_way : (x y t : ℤ) (b : ℕ) → 0 < b → (x +ℤ pos b) ≤ℤ y → 2 * unsigned_abs (x -ℤ t) ≤ b → 2 * unsigned_abs (y -ℤ t) ≤ b →
    (y ≡ x +ℤ pos b) × (2 * unsigned_abs (x -ℤ t) ≡ b) × (2 * unsigned_abs (y -ℤ t) ≡ b) × (x <ℤ t) × (t <ℤ y)
half_way x y t b p h u v = (omega (arith, ints), omega (arith, ints), omega (arith, ints), omega (arith, ints), omega (arith, ints))

-- half way, the one further from zero is the nearest
not_less : (n m t : ℤ) (b : ℕ) → 0 < b → IsNearest n t b → IsNearest m t b → n <ℤ m → ⊥
not_less n m t b p u v h =
    let half = half_way (n *ℤ pos b) (m *ℤ pos b) t b p (times_step n m b h) u.near v.near in
    let low : unsigned_abs t < unsigned_abs (n *ℤ pos b) = rw (unsigned_abs-mul n (pos b)) (u.tie half.1) in
    let high : unsigned_abs t < unsigned_abs (m *ℤ pos b) = rw (unsigned_abs-mul m (pos b)) (v.tie half.2) in
    by_lt_z n (pos 0)
    (λ below. omega (arith, ints, half.0, half.3, half.4, low, high, zero-mul b, times_step n (pos 0) b below))
    (λ above. omega (arith, ints, half.0, half.3, half.4, low, high, zero-mul b, mul_le_pos (pos 0) n b above))

one_nearest : (n m t : ℤ) (b : ℕ) → 0 < b → IsNearest n t b → IsNearest m t b → n ≡ m
one_nearest n m t b p u v = by_lt_z n m (λ less. absurd (not_less n m t b p u v less)) (λ most. by_lt_z m n (λ less. absurd (not_less m n t b p v u less)) (λ least. omega (arith, ints, most, least)))

raised_pos : (z : ℤ) → 0 < raised z
raised_pos (pos n) = power_pos n
raised_pos (negsuc n) = omega arith

-- rounding half up, by a division
rounded : (t b : ℕ) → 0 < b → (2 * ((2 * t + b) / (2 * b) * b) ≤ 2 * t + b) × (2 * t + b < 2 * ((2 * t + b) / (2 * b) * b) + 2 * b)
rounded t b p = (omega (arith, whole, rest), omega (arith, whole, rest))
  where
    whole : (2 * t + b) / (2 * b) * (2 * b) + (2 * t + b) % (2 * b) ≡ 2 * t + b
    whole = div-add-mod' (2 * t + b) (2 * b)

    rest : (2 * t + b) % (2 * b) < 2 * b
    rest = mod_below (2 * t + b) (2 * b) (omega arith)

nearest_signed : (negative : Bool) (t b : ℕ) → 0 < b → IsNearest (signed negative ((2 * t + b) / (2 * b))) (signed negative t) b
nearest_signed false t b p = record {
  near = omega (arith, ints, (rounded t b p).0, (rounded t b p).1);
  tie = λ e. omega (arith, ints, e, (rounded t b p).0, (rounded t b p).1);
}
nearest_signed true t b p =
    let q = (2 * t + b) / (2 * b) in
    record {
      near = omega (arith, ints, neg-mul (pos q) (pos b), (rounded t b p).0, (rounded t b p).1);
      tie = λ e. omega (arith, ints, e, neg-mul (pos q) (pos b), unsigned_abs-mul (neg_ℤ (pos q)) (pos b), (rounded t b p).0, (rounded t b p).1);
    }

computed_is_nearest : (d : Decimal) → IsNearestMicron d (nearest_micron d)
computed_is_nearest d = nearest_signed d.negative (top d 3) (down d 3) (raised_pos (neg_ℤ (scale d +ℤ pos 3)))

from_computed : (o : Option Decimal) (n : ℤ) → option_map nearest_micron o ≡ Some n → (d : Decimal) × (o ≡ Some d) × IsNearestMicron d n
from_computed None n e = absurd (cc)
from_computed (Some d) n e = (d, refl, subst (λ z. IsNearestMicron d z) same (computed_is_nearest d))
  where
    same : nearest_micron d ≡ n
    same = cc

-- the micrometre that is computed is the nearest
pub micron_is_nearest : (text : List ℕ) (n : ℤ) → micron_of text ≡ Some n → IsMicron text n
micron_is_nearest text n e = from_computed (decimal_of text) n e

-- a text has one nearest micrometre, and it's the one that is computed
pub nearest_is_computed : (text : List ℕ) (n : ℤ) → IsMicron text n → micron_of text ≡ Some n
nearest_is_computed text n h =
    ap (λ o. option_map nearest_micron o) h.1
    ∙ ap (λ (z : ℤ). Some z) (one_nearest (nearest_micron h.0) n (signed h.0.negative (top h.0 3)) (down h.0 3) (raised_pos (neg_ℤ (scale h.0 +ℤ pos 3))) (computed_is_nearest h.0) h.2)
