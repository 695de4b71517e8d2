-- Digits before a place and from it on, in two lists one behind the other.
use Rattle.std.proofs.Common.{arith, ◌≡◌, ℕ, zero, suc, ◌+◌, ◌-◌, ◌*◌, ◌^◌, true, ◌&&◌, List, [], ◌∷◌, ◌++◌, length, take, drop, refl, sym, ap, length-append, ◌∙◌}
use Rattle.std.specs.Char.{digit_value, is_ascii_digit}
use Rattle.std.specs.List.{list_all}
use Rattle.std.specs.Str.Parse.{digits_value_after}
use Rattle.std.proofs.lemmas.Bool.{and_parts, and_from}
use Rattle.std.proofs.lemmas.List.Folds.{list_all-append}
use Rattle.micron_decimals.specs.Decimals.{are_digits}
use Rattle.micron_decimals.specs.Places.{capped, front_value, is_zero}
use Rattle.micron_decimals.proofs.Capped.{capped_after, capped_times, power_pos}

take-append : (p : ℕ) (xs ys : List ℕ) → take p (xs ++ ys) ≡ take p xs ++ take (p - length xs) ys
take-append zero xs ys = ap (λ n. take n ys) (none (length xs))
  where
    none : (n : ℕ) → 0 ≡ 0 - n
    none n = omega arith
take-append (suc p) [] ys = ap (λ n. take n ys) (all p)
  where
    all : (p : ℕ) → suc p ≡ suc p - 0
    all p = omega arith
take-append (suc p) (x ∷ xs) ys = ap (λ zs. x ∷ zs) (take-append p xs ys) ∙ ap (λ n. x ∷ take p xs ++ take n ys) (same p (length xs))
  where
    same : (p n : ℕ) → p - n ≡ suc p - suc n
    same p n = omega arith

drop-append : (p : ℕ) (xs ys : List ℕ) → drop p (xs ++ ys) ≡ drop p xs ++ drop (p - length xs) ys
drop-append zero xs ys = ap (λ n. xs ++ drop n ys) (none (length xs))
  where
    none : (n : ℕ) → 0 ≡ 0 - n
    none n = omega arith
drop-append (suc p) [] ys = ap (λ n. drop n ys) (all p)
  where
    all : (p : ℕ) → suc p ≡ suc p - 0
    all p = omega arith
drop-append (suc p) (x ∷ xs) ys = drop-append p xs ys ∙ ap (λ n. drop p xs ++ drop n ys) (same p (length xs))
  where
    same : (p n : ℕ) → p - n ≡ suc p - suc n
    same p n = omega arith

pub are_digits-take : (n : ℕ) (ds : List ℕ) → are_digits ds ≡ true → are_digits (take n ds) ≡ true
are_digits-take zero ds h = refl
are_digits-take (suc n) [] h = refl
are_digits-take (suc n) (d ∷ ds) h =
    let parts = and_parts (is_ascii_digit d) (are_digits ds) h in
    and_from (is_ascii_digit d) (are_digits (take n ds)) parts.0 (are_digits-take n ds parts.1)

pub are_digits-drop : (n : ℕ) (ds : List ℕ) → are_digits ds ≡ true → are_digits (drop n ds) ≡ true
are_digits-drop zero ds h = h
are_digits-drop (suc n) [] h = refl
are_digits-drop (suc n) (d ∷ ds) h = are_digits-drop n ds (and_parts (is_ascii_digit d) (are_digits ds) h).1

-- both parts of a list of digits are digits
pub both_are_digits : (xs ys : List ℕ) → are_digits (xs ++ ys) ≡ true → (are_digits xs ≡ true) × (are_digits ys ≡ true)
both_are_digits xs ys h = and_parts (are_digits xs) (are_digits ys) (rw (← list_all-append is_ascii_digit xs ys) h)

pub digits_value_after-append : (n : ℕ) (xs ys : List ℕ) → digits_value_after 10 n (xs ++ ys) ≡ digits_value_after 10 (digits_value_after 10 n xs) ys
digits_value_after-append n [] ys = refl
digits_value_after-append n (x ∷ xs) ys = digits_value_after-append (n * 10 + digit_value x) xs ys

-- the front of two lists, one read behind the other
pub front_by_parts : (p : ℕ) (xs ys : List ℕ) →
    capped (capped (digits_value_after 10 (capped (digits_value_after 10 0 (take p xs))) (take (p - length xs) ys)) * 10 ^ ((p - length xs) - length ys)) ≡ capped (front_value p (xs ++ ys))
front_by_parts p xs ys =
    let zeros = (p - length xs) - length ys in
    ap (λ n. capped (n * 10 ^ zeros)) (capped_after (digits_value_after 10 0 (take p xs)) (take (p - length xs) ys))
    ∙ capped_times (digits_value_after 10 (digits_value_after 10 0 (take p xs)) (take (p - length xs) ys)) (10 ^ zeros) (power_pos zeros)
    ∙ ap (λ n. capped (n * 10 ^ zeros)) (sym (digits_value_after-append 0 (take p xs) (take (p - length xs) ys)))
    ∙ ap (λ ds. capped (digits_value_after 10 0 ds * 10 ^ zeros)) (sym (take-append p xs ys))
    ∙ ap (λ k. capped (digits_value_after 10 0 (take p (xs ++ ys)) * 10 ^ k)) (omega (arith, length-append xs ys))

-- zeros alone from a place on, in two lists one behind the other, where the first has no other digit there
pub zeros_by_parts : (p : ℕ) (xs ys : List ℕ) → list_all is_zero (drop p xs) ≡ true → list_all is_zero (drop p (xs ++ ys)) ≡ list_all is_zero (drop (p - length xs) ys)
zeros_by_parts p xs ys h =
    ap (λ ds. list_all is_zero ds) (drop-append p xs ys) ∙ list_all-append is_zero (drop p xs) (drop (p - length xs) ys)
    ∙ ap (λ b. b && list_all is_zero (drop (p - length xs) ys)) h
