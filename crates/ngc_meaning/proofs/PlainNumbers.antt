-- A plain number is a decimal: it has no blank and no exponent.
use Rattle.std.proofs.Common.{arith, ◌≡◌, ℕ, suc, ◌+◌, Bool, true, false, List, [], ◌∷◌, ◌++◌, ◌-◌, length, take, drop, Some, None, refl, sym, ap, ◌∙◌}
use Rattle.std.specs.Prelude.{◌&&◌, nat_eq, nat_lt, is_some, Option, ℤ, option_map, cond, if◌then◌else◌}
use Rattle.std.specs.Char.{is_ascii_digit}
use Rattle.std.specs.Int.{IsInRange}
use Rattle.std.specs.List.{AllByRecursion, before_first, after_first, position_or_len, list_any, suffix_len}
use Rattle.std.specs.Str.Parse.{without_leading_sign}
use Rattle.std.proofs.lemmas.Bool.{and_parts, true≢false}
use Rattle.std.proofs.lemmas.Grind.{common_steps}
use Rattle.std.proofs.lemmas.List.{take_all}
use Rattle.std.proofs.lemmas.List.Elements.{All-from_recursion}
use Rattle.std.proofs.lemmas.List.Folds.{list_any_none}
use Rattle.nest_base.specs.Lines.{is_blank, trimmed}
use Rattle.micron_decimals.specs.Decimals.{Decimal, is_point, is_exponent_mark, are_digits, plain_of, decimal_of, micron_of, nearest_micron}
use Rattle.micron_decimals.proofs.Bytes.{NonePass, all_imply, prefix_len_none, suffix_len_none, before_first_none}

-- signs, points and digits lie between the plus and the 9
abbrev NumberBytes : List ℕ → Type 0
NumberBytes xs = AllByRecursion (IsInRange 43 57) xs

digit_byte : (b : ℕ) → is_ascii_digit b ≡ true → IsInRange 43 57 b
digit_byte b h = (grind (arith, common_steps, h), grind (arith, common_steps, h))

point_byte : (b : ℕ) → is_point b ≡ true → IsInRange 43 57 b
point_byte b h = (grind (arith, common_steps, h), grind (arith, common_steps, h))

no_blank : (b : ℕ) → IsInRange 43 57 b → is_blank b ≡ false
no_blank b h = grind (arith, common_steps, h)

no_mark : (b : ℕ) → IsInRange 43 57 b → is_exponent_mark b ≡ false
no_mark b h = grind (arith, common_steps, h)

digits_are : (xs : List ℕ) → are_digits xs ≡ true → NumberBytes xs
digits_are [] h = tt
digits_are (x ∷ xs) h = let parts = and_parts (is_ascii_digit x) (are_digits xs) h in (digit_byte x parts.0, digits_are xs parts.1)

one_more : (n : ℕ) → 1 + n ≡ suc n
one_more n = omega arith

two_more : (n : ℕ) → 1 + n + 1 ≡ suc (n + 1)
two_more n = omega arith

before_other : (x : ℕ) (xs : List ℕ) → is_point x ≡ false → before_first is_point (x ∷ xs) ≡ x ∷ before_first is_point xs
before_other x xs h = rw h (ap (λ n. take n (x ∷ xs)) (one_more (position_or_len is_point xs)))

after_other : (x : ℕ) (xs : List ℕ) → is_point x ≡ false → after_first is_point (x ∷ xs) ≡ after_first is_point xs
after_other x xs h = rw h (ap (λ n. drop n (x ∷ xs)) (two_more (position_or_len is_point xs)))

after_point : (x : ℕ) (xs : List ℕ) → is_point x ≡ true → before_first is_point (x ∷ xs) ++ after_first is_point (x ∷ xs) ≡ xs
after_point x xs h = rw h refl

-- digits, and one point among them or none
cut_digits : (xs : List ℕ) → are_digits (before_first is_point xs ++ after_first is_point xs) ≡ true → NumberBytes xs
cut_digits [] h = tt
cut_digits (x ∷ xs) h = by (is_point x) refl (cut_digits xs)
  where
    by : (t : Bool) → is_point x ≡ t → (are_digits (before_first is_point xs ++ after_first is_point xs) ≡ true → NumberBytes xs) → NumberBytes (x ∷ xs)
    by true e more = (point_byte x e, digits_are xs (ap are_digits (sym (after_point x xs e)) ∙ h))
    by false e more =
        let parts = and_parts (is_ascii_digit x) (are_digits (before_first is_point xs ++ after_first is_point xs)) (ap are_digits (sym (ap (λ b. b ++ after_first is_point (x ∷ xs)) (before_other x xs e) ∙ ap (λ a. x ∷ before_first is_point xs ++ a) (after_other x xs e))) ∙ h) in
        (digit_byte x parts.0, more parts.1)

-- behind a sign, or without one
with_sign : (text : List ℕ) → NumberBytes (without_leading_sign text) → NumberBytes text
with_sign [] h = tt
with_sign (b ∷ text) h = by (nat_eq b 45) (nat_eq b 43) refl refl h
  where
    by : (minus plus : Bool) → nat_eq b 45 ≡ minus → nat_eq b 43 ≡ plus → NumberBytes (cond minus (drop 1 (b ∷ text)) (drop (cond plus 1 0) (b ∷ text))) → NumberBytes (b ∷ text)
    by true plus e f k = ((grind (arith, common_steps, e), grind (arith, common_steps, e)), k)
    by false true e f k = ((grind (arith, common_steps, f), grind (arith, common_steps, f)), k)
    by false false e f k = k

digits_of_plain : (text : List ℕ) → is_some (plain_of text) ≡ true → are_digits (before_first is_point (without_leading_sign text) ++ after_first is_point (without_leading_sign text)) ≡ true
digits_of_plain text h =
    (and_parts (nat_lt 0 (length (whole ++ part))) (are_digits (whole ++ part)) (by (nat_lt 0 (length (whole ++ part)) && are_digits (whole ++ part)) _ h)).1
  where
    whole : List ℕ
    whole = before_first is_point (without_leading_sign text)

    part : List ℕ
    part = after_first is_point (without_leading_sign text)

    by : (t : Bool) (d : Decimal) → is_some (if t then Some d else None) ≡ true → t ≡ true
    by true d k = refl
    by false d k = k

trimmed_plain : (xs : List ℕ) → NonePass is_blank xs → trimmed xs ≡ xs
trimmed_plain xs h = ap (λ n. take (length (drop n xs) - suffix_len is_blank (drop n xs)) (drop n xs)) (prefix_len_none is_blank xs h) ∙ ap (λ n. take (length xs - n) xs) (suffix_len_none is_blank xs h) ∙ ap (λ n. take n xs) (omega arith) ∙ take_all (length xs) xs (omega arith)

decimal_by : (text : List ℕ) (d : Decimal) → trimmed text ≡ text → list_any is_exponent_mark text ≡ false → before_first is_exponent_mark text ≡ text → plain_of text ≡ Some d → is_some (decimal_of text) ≡ true
decimal_by text d a b c e = rw a (rw (b, c) (rw e refl))

some_of : {X : Type 0} (o : Option X) → is_some o ≡ true → (x : X) × (o ≡ Some x)
some_of None h = absurd (true≢false (sym h))
some_of (Some x) h = (x, refl)

-- a plain number has a nearest micrometre
pub plain_is_read : (text : List ℕ) → is_some (plain_of text) ≡ true → (n : ℤ) × (micron_of text ≡ Some n)
plain_is_read text h =
    let bytes = with_sign text (cut_digits (without_leading_sign text) (digits_of_plain text h)) in
    let no_blanks = all_imply (IsInRange 43 57) (λ b. is_blank b ≡ false) no_blank text bytes in
    let no_marks = all_imply (IsInRange 43 57) (λ b. is_exponent_mark b ≡ false) no_mark text bytes in
    let plain = some_of (plain_of text) h in
    let read = some_of (decimal_of text) (decimal_by text plain.0 (trimmed_plain text no_blanks) (list_any_none is_exponent_mark text (All-from_recursion (λ b. is_exponent_mark b ≡ false) text no_marks))
    (before_first_none is_exponent_mark text no_marks) plain.1) in
    (nearest_micron read.0, ap (option_map nearest_micron) read.1)
