-- Numbers up to `far`, and the digits that write them.
use Rattle.std.proofs.Common.{arith, ◌≡◌, ℕ, zero, suc, min, add-one, ◌+◌, ◌-◌, ◌*◌, ◌^◌, ◌<◌, ◌≤◌, true, List, [], ◌∷◌, inl, inr, lit<, sym, ap, ◌∙◌}
use Rattle.std.proofs.lemmas.Bool.{and_parts, cases_lt}
use Rattle.std.proofs.lemmas.Grind.{common_steps}
use Rattle.std.proofs.Math.Nat.{mul-le-mul_right, mul-le-mul_left, pow-le-pow_right, pow-suc}
use Rattle.std.specs.Char.{digit_value, is_ascii_digit}
use Rattle.std.specs.Str.Parse.{digits_value_after}
use Rattle.micron_decimals.specs.Decimals.{are_digits}
use Rattle.micron_decimals.specs.Places.{far, capped}

capped_more : (n d : ℕ) → capped (capped n * 10 + d) ≡ capped (n * 10 + d)
capped_more n d = omega arith

-- what is lost above `far` before some digits is lost behind them too
pub capped_after : (n : ℕ) (ds : List ℕ) → capped (digits_value_after 10 (capped n) ds) ≡ capped (digits_value_after 10 n ds)
capped_after n [] = omega arith
capped_after n (d ∷ ds) = sym (capped_after (capped n * 10 + digit_value d) ds) ∙ ap (λ m. capped (digits_value_after 10 m ds)) (capped_more n (digit_value d)) ∙ capped_after (n * 10 + digit_value d) ds

digit_minus : (v d : ℕ) → is_ascii_digit d ≡ true → 10 * v + (d - 48) ≡ v * 10 + digit_value d
digit_minus v d h = grind (arith, common_steps, h)

-- one digit on
pub number_more : (v d : ℕ) (ds : List ℕ) → are_digits (d ∷ ds) ≡ true → (are_digits ds ≡ true) × (capped (digits_value_after 10 (capped (10 * v + (d - 48))) ds) ≡ capped (digits_value_after 10 v (d ∷ ds)))
number_more v d ds h =
    let parts = and_parts (is_ascii_digit d) (are_digits ds) h in
    (parts.1, ap (λ m. capped (digits_value_after 10 (capped m) ds)) (digit_minus v d parts.0) ∙ capped_after (v * 10 + digit_value d) ds)

times_one : (n t : ℕ) → 0 < t → n ≤ n * t
times_one n t h = omega (arith, mul-le-mul_left n h)

-- what is lost above `far` before a product is lost behind it too
pub capped_times : (n t : ℕ) → 0 < t → capped (capped n * t) ≡ capped (n * t)
capped_times n t h = elim (cases_lt n far) [
  | inl less ↦ ap (λ m. capped (m * t)) (omega (arith, less))
  | inr least ↦ omega (arith, times_one far t h, mul-le-mul_right t least, capped_is least)
]
  where
    capped_is : far ≤ n → capped n * t ≡ far * t
    capped_is e = ap (λ m. m * t) (omega (arith, e))

-- one zero on
pub zeros_more : (n k : ℕ) → capped (10 * capped (n * 10 ^ k)) ≡ capped (n * 10 ^ (k + 1))
zeros_more n k = by (10 ^ k) (10 ^ (k + 1)) (rw add-one (pow-suc 10 k))
  where
    by : (t u : ℕ) → u ≡ t * 10 → capped (10 * capped (n * t)) ≡ capped (n * u)
    by t u e = rw e (omega arith)

-- twenty zeros behind a number other than 0 are as many as matter
pub zeros_enough : (n zeros : ℕ) → 20 ≤ zeros → capped (n * 10 ^ zeros) ≡ capped (n * far)
zeros_enough n zeros h = by n (10 ^ zeros) (pow-le-pow_right {n = 10} (lit< tt) {i = 20} {j = zeros} h)
  where
    by : (n t : ℕ) → far ≤ t → capped (n * t) ≡ capped (n * far)
    by zero t h = omega arith
    by (suc n) t h = omega (arith, mul-le-mul_left (suc n) h)

pub zeros_up_to : (n zeros : ℕ) → capped (n * 10 ^ min zeros 20) ≡ capped (n * 10 ^ zeros)
zeros_up_to n zeros = elim (cases_lt zeros 20) [
  | inl less ↦ ap (λ k. capped (n * 10 ^ k)) (omega (arith, less))
  | inr least ↦ zeros_enough n (min zeros 20) (omega (arith, least)) ∙ sym (zeros_enough n zeros least)
]

pub power_pos : (k : ℕ) → 0 < 10 ^ k
power_pos k = omega (arith, pow-le-pow_right {n = 10} (lit< tt) {i = 0} {j = k} (omega arith))
