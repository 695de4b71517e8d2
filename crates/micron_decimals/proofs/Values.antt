-- The number that digits write, cut at a place.
use Rattle.std.proofs.Common.{arith, ◌≡◌, ℕ, zero, suc, ◌+◌, ◌-◌, ◌*◌, ◌^◌, ◌<◌, true, ◌&&◌, List, [], ◌∷◌, length, take, drop, refl, sym, ap, subst, length-drop, ◌∙◌}
use Rattle.std.specs.Bool.{Decides}
use Rattle.std.specs.Char.{digit_value, is_ascii_digit}
use Rattle.std.specs.List.{list_all}
use Rattle.std.specs.Str.Parse.{AllDigits, digits_value, digits_value_after}
use Rattle.std.proofs.Math.Nat.{pow-suc}
use Rattle.std.proofs.lemmas.Bool.{and_parts}
use Rattle.std.proofs.lemmas.Bool.Decides.{Decides-and, Decides-eqb, Decides-like}
use Rattle.std.proofs.lemmas.Grind.{common_steps}
use Rattle.std.proofs.lemmas.Int.Digits.{digits_value-lt}
use Rattle.std.proofs.lemmas.List.{take-append-drop}
use Rattle.micron_decimals.specs.Decimals.{are_digits}
use Rattle.micron_decimals.specs.Places.{is_zero}
use Rattle.micron_decimals.proofs.Capped.{power_pos}
use Rattle.micron_decimals.proofs.Cuts.{are_digits-drop, digits_value_after-append}

pub digit_bounds : (d : ℕ) → is_ascii_digit d ≡ true → (digit_value d < 10) × (digit_value d + 48 ≡ d)
digit_bounds d h = (grind (arith, common_steps, h), grind (arith, common_steps, h))

all_digits : (ds : List ℕ) → are_digits ds ≡ true → AllDigits 10 ds
all_digits [] h = tt
all_digits (d ∷ ds) h =
    let parts = and_parts (is_ascii_digit d) (are_digits ds) h in
    ((digit_bounds d parts.0).0, all_digits ds parts.1)

-- digits write less than ten to the power of their count
pub value_below : (ds : List ℕ) → are_digits ds ≡ true → digits_value 10 ds < 10 ^ length ds
value_below ds h = digits_value-lt 10 ds (all_digits ds h)

-- the number that digits write behind another
value_after : (n : ℕ) (ds : List ℕ) → digits_value_after 10 n ds ≡ n * 10 ^ length ds + digits_value 10 ds
value_after n [] = omega arith
value_after n (d ∷ ds) = by (10 ^ length ds) (10 ^ suc (length ds)) (digit_value d) (pow-suc 10 (length ds)) (value_after (n * 10 + digit_value d) ds) (value_after (0 * 10 + digit_value d) ds)
  where
    by : (t u v : ℕ) → u ≡ t * 10 → digits_value_after 10 (n * 10 + v) ds ≡ (n * 10 + v) * t + digits_value 10 ds →
        digits_value_after 10 (0 * 10 + v) ds ≡ (0 * 10 + v) * t + digits_value 10 ds → digits_value_after 10 (n * 10 + v) ds ≡ n * u + digits_value_after 10 (0 * 10 + v) ds
    by t u v e first second = rw e (omega (arith, first, second))

-- the first digit, and the others
pub value-cons : (d : ℕ) (ds : List ℕ) → digits_value 10 (d ∷ ds) ≡ digit_value d * 10 ^ length ds + digits_value 10 ds
value-cons d ds = value_after (0 * 10 + digit_value d) ds ∙ ap (λ v. v * 10 ^ length ds + digits_value 10 ds) (omega arith)

-- the digits before a place, and the others
pub value_cut : (p : ℕ) (ds : List ℕ) → digits_value 10 ds ≡ digits_value 10 (take p ds) * 10 ^ (length ds - p) + digits_value 10 (drop p ds)
value_cut p ds =
    ap (λ xs. digits_value 10 xs) (sym (take-append-drop p ds)) ∙ digits_value_after-append 0 (take p ds) (drop p ds) ∙ value_after (digits_value 10 (take p ds)) (drop p ds)
    ∙ ap (λ n. digits_value 10 (take p ds) * 10 ^ n + digits_value 10 (drop p ds)) (length-drop p ds)

pub rest_below : (p : ℕ) (ds : List ℕ) → are_digits ds ≡ true → digits_value 10 (drop p ds) < 10 ^ (length ds - p)
rest_below p ds h = subst (λ n. digits_value 10 (drop p ds) < 10 ^ n) (length-drop p ds) (value_below (drop p ds) (are_digits-drop p ds h))

-- zeros alone are the digits of 0
pub zeros_write_zero : (ds : List ℕ) → are_digits ds ≡ true → Decides (list_all is_zero ds) (digits_value 10 ds ≡ 0)
zeros_write_zero [] h = (λ e. refl, λ e. refl)
zeros_write_zero (d ∷ ds) h =
    let parts = and_parts (is_ascii_digit d) (are_digits ds) h in
    let bounds = digit_bounds d parts.0 in
    Decides-like (is_zero d && list_all is_zero ds)
    (λ both. value-cons d ds ∙ to (digit_value d) (10 ^ length ds) (digits_value 10 ds) (omega (arith, bounds.1, both.0)) both.1)
    (λ e. let each = from (digit_value d) (10 ^ length ds) (digits_value 10 ds) (power_pos (length ds)) (sym (value-cons d ds) ∙ e) in (omega (arith, bounds.1, each.0), each.1))
    (Decides-and (is_zero d) (list_all is_zero ds) (Decides-eqb d 48) (zeros_write_zero ds parts.1))
  where
    to : (v t r : ℕ) → v ≡ 0 → r ≡ 0 → v * t + r ≡ 0
    to v t r e f = rw (e, f) (omega arith)

    from : (v t r : ℕ) → 0 < t → v * t + r ≡ 0 → (v ≡ 0) × (r ≡ 0)
    from zero t r h e = (refl, omega (arith, e))
    from (suc v) t r h e = absurd (omega (arith, e, h))
