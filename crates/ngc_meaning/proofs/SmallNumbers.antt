-- Digits as numbers up to 100.
use Rattle.std.proofs.Common.{arith, ◌≡◌, ℕ, min, ◌+◌, ◌-◌, ◌*◌, true, List, [], ◌∷◌, sym, ap, ◌∙◌}
use Rattle.std.proofs.lemmas.Bool.{and_parts}
use Rattle.std.proofs.lemmas.Grind.{common_steps}
use Rattle.std.specs.Char.{digit_value, is_ascii_digit}
use Rattle.std.specs.Str.Parse.{digits_value_after}
use Rattle.micron_decimals.specs.Decimals.{are_digits}

-- a number up to 100
abbrev pub up_to_100 : ℕ → ℕ
up_to_100 n = min n 100

capped_more : (n d : ℕ) → up_to_100 (up_to_100 n * 10 + d) ≡ up_to_100 (n * 10 + d)
capped_more n d = omega arith

-- what is lost above 100 before some digits is lost behind them too
capped_after : (n : ℕ) (ds : List ℕ) → up_to_100 (digits_value_after 10 (up_to_100 n) ds) ≡ up_to_100 (digits_value_after 10 n ds)
capped_after n [] = omega arith
capped_after n (d ∷ ds) = sym (capped_after (up_to_100 n * 10 + digit_value d) ds) ∙ ap (λ m. up_to_100 (digits_value_after 10 m ds)) (capped_more n (digit_value d)) ∙ capped_after (n * 10 + digit_value d) ds

digit_minus : (v d : ℕ) → is_ascii_digit d ≡ true → 10 * v + (d - 48) ≡ v * 10 + digit_value d
digit_minus v d h = grind (arith, common_steps, h)

-- one digit on
pub value_more : (v d : ℕ) (ds : List ℕ) → are_digits (d ∷ ds) ≡ true →
    (are_digits ds ≡ true) × (up_to_100 (digits_value_after 10 (up_to_100 (10 * v + (d - 48))) ds) ≡ up_to_100 (digits_value_after 10 v (d ∷ ds)))
value_more v d ds h =
    let parts = and_parts (is_ascii_digit d) (are_digits ds) h in
    (parts.1, ap (λ m. up_to_100 (digits_value_after 10 (up_to_100 m) ds)) (digit_minus v d parts.0) ∙ capped_after (v * 10 + digit_value d) ds)
