-- A number that is written is read as itself.
use Rattle.std.proofs.Common.{arith, ◌≡◌, ℕ, suc, ◌+◌, ◌-◌, ◌*◌, ◌/◌, ◌%◌, ◌^◌, ◌<◌, ◌≤◌, lit≤, Bool, true, false, List, [], ◌∷◌, ◌++◌, length, take, drop, ℤ, pos, negsuc, Some, refl, ap, subst, ◌∙◌}
use Rattle.std.proofs.lemmas.Grind.{common_steps}
use Rattle.std.specs.Prelude.{unsigned_abs, nat_eq, nat_lt, is_some}
use Rattle.std.specs.Char.{digit_value, is_ascii_digit}
use Rattle.std.specs.Fmt.{decimal}
use Rattle.std.specs.Int.{IsInRange}
use Rattle.std.specs.List.{AllByRecursion, suffix_len, before_first, after_first, list_any}
use Rattle.std.specs.Option.{option_map}
use Rattle.std.specs.Str.Parse.{AllDigits, digits_value, digits_value_after, without_leading_sign, starts_with_minus}
use Rattle.std.proofs.lemmas.Fmt.{decimal_is_IsNumeral, length-decimal-le}
use Rattle.std.proofs.lemmas.List.{length-append, take_all}
use Rattle.std.proofs.lemmas.List.Elements.{All-from_recursion}
use Rattle.std.proofs.lemmas.List.Folds.{list_any_none}
use Rattle.std.proofs.lemmas.Str.Parse.{digit_from_value}
use Rattle.nest_base.specs.Lines.{is_blank, trimmed}
use Rattle.micron_decimals.specs.Decimals.{is_point, is_exponent_mark, are_digits, plain_of, decimal_of, Decimal, three_digits, micron_text, nearest_micron, micron_of, signed}
use Rattle.micron_decimals.proofs.Bytes.{NonePass, all_imply, all-append, prefix_len_none, suffix_len_none, before_first_none, before_first_at, after_first_at}
use Rattle.micron_decimals.proofs.Cuts.{digits_value_after-append}

abbrev Digits : List ℕ → Type 0
Digits xs = AllByRecursion (IsInRange 48 57) xs

-- digits, a point and a minus lie between the minus and the 9
abbrev pub NumberBytes : List ℕ → Type 0
NumberBytes xs = AllByRecursion (IsInRange 45 57) xs

digits_from : (xs : List ℕ) → AllDigits 10 xs → Digits xs
digits_from [] h = tt
digits_from (x ∷ xs) h = (digit_from_value x h.0, digits_from xs h.1)

digit_in_number : (b : ℕ) → IsInRange 48 57 b → IsInRange 45 57 b
digit_in_number b h = (omega (arith, h.0), h.1)

digit_is_no_point : (b : ℕ) → IsInRange 48 57 b → is_point b ≡ false
digit_is_no_point b h = grind (arith, common_steps, h)

digit_is_digit : (b : ℕ) → IsInRange 48 57 b → is_ascii_digit b ≡ true
digit_is_digit b h = grind (arith, common_steps, h)

digit_is_no_sign : (b : ℕ) → IsInRange 48 57 b → (nat_eq b 45 ≡ false) × (nat_eq b 43 ≡ false)
digit_is_no_sign b h = (grind (arith, common_steps, h), grind (arith, common_steps, h))

pub number_has_no_blank : (b : ℕ) → IsInRange 45 57 b → is_blank b ≡ false
number_has_no_blank b h = grind (arith, common_steps, h)

number_has_no_mark : (b : ℕ) → IsInRange 45 57 b → is_exponent_mark b ≡ false
number_has_no_mark b h = grind (arith, common_steps, h)

all_are_digits : (xs : List ℕ) → Digits xs → are_digits xs ≡ true
all_are_digits [] h = refl
all_are_digits (x ∷ xs) h = rw (digit_is_digit x h.0) (all_are_digits xs h.1)

no_point : (xs : List ℕ) → Digits xs → NonePass is_point xs
no_point xs h = all_imply (IsInRange 48 57) (λ b. is_point b ≡ false) digit_is_no_point xs h

trimmed_number : (xs : List ℕ) → NonePass is_blank xs → trimmed xs ≡ xs
trimmed_number xs h = ap (λ n. take (length (drop n xs) - suffix_len is_blank (drop n xs)) (drop n xs)) (prefix_len_none is_blank xs h) ∙ ap (λ n. take (length xs - n) xs) (suffix_len_none is_blank xs h) ∙ ap (λ n. take n xs) (omega arith) ∙ take_all (length xs) xs (omega arith)

-- a minus or none, digits, a point and digits
spelled : Bool → List ℕ → List ℕ → List ℕ
spelled true whole part = 45 ∷ whole ++ 46 ∷ part
spelled false whole part = whole ++ 46 ∷ part

-- the decimal that is so spelled
abbrev parts : Bool → List ℕ → List ℕ → Decimal
parts negative whole part = record { negative = negative; whole = whole; part = part; power = pos 0 }

spelled_sign : (negative : Bool) (d : ℕ) (whole part : List ℕ) → IsInRange 48 57 d →
    (without_leading_sign (spelled negative (d ∷ whole) part) ≡ d ∷ whole ++ 46 ∷ part) × (starts_with_minus (spelled negative (d ∷ whole) part) ≡ negative)
unfolding spelled
spelled_sign true d whole part h = (refl, refl)
spelled_sign false d whole part h = (rw ((digit_is_no_sign d h).0) (rw ((digit_is_no_sign d h).1) refl), (digit_is_no_sign d h).0)

spelled_bytes : (negative : Bool) (whole part : List ℕ) → Digits whole → Digits part → NumberBytes (spelled negative whole part)
unfolding spelled
spelled_bytes negative whole part h k =
    let front = all_imply (IsInRange 48 57) (IsInRange 45 57) digit_in_number whole h in
    let back = all_imply (IsInRange 48 57) (IsInRange 45 57) digit_in_number part k in
    let unsigned = all-append (IsInRange 45 57) whole (46 ∷ part) front ((lit≤ tt, lit≤ tt), back) in
    elim negative as (λ v. NumberBytes (spelled v whole part)) [ true ↦ ((lit≤ tt, lit≤ tt), unsigned) | false ↦ unsigned ]

plain_by : (text rest whole part : List ℕ) (negative : Bool) → without_leading_sign text ≡ rest → starts_with_minus text ≡ negative →
    before_first is_point rest ≡ whole → after_first is_point rest ≡ part → are_digits (whole ++ part) ≡ true → nat_lt 0 (length (whole ++ part)) ≡ true →
    plain_of text ≡ Some (parts negative whole part)
plain_by text rest whole part negative a b c d e f = rw (a, b) (rw (c, d) (rw (f, e) refl))

plain_spelled : (negative : Bool) (d : ℕ) (whole part : List ℕ) → Digits (d ∷ whole) → Digits part → plain_of (spelled negative (d ∷ whole) part) ≡ Some (parts negative (d ∷ whole) part)
plain_spelled negative d whole part h k =
    plain_by (spelled negative (d ∷ whole) part) (d ∷ whole ++ 46 ∷ part) (d ∷ whole) part negative
    (spelled_sign negative d whole part h.0).0 (spelled_sign negative d whole part h.0).1
    (before_first_at is_point (d ∷ whole) 46 part (no_point (d ∷ whole) h) refl)
    (after_first_at is_point (d ∷ whole) 46 part (no_point (d ∷ whole) h) refl)
    (all_are_digits (d ∷ whole ++ part) (all-append (IsInRange 48 57) (d ∷ whole) part h k)) (some (length (whole ++ part)))
  where
    some : (n : ℕ) → nat_lt 0 (suc n) ≡ true
    some n = grind (arith, common_steps)

decimal_by : (text : List ℕ) (d : Decimal) → trimmed text ≡ text → list_any is_exponent_mark text ≡ false → before_first is_exponent_mark text ≡ text → plain_of text ≡ Some d → d.power ≡ pos 0 → decimal_of text ≡ Some (record d { power = pos 0 })
decimal_by text d a b c e z = rw a (rw (b, c) (rw e refl))

decimal_spelled : (negative : Bool) (d : ℕ) (whole part : List ℕ) → Digits (d ∷ whole) → Digits part → decimal_of (spelled negative (d ∷ whole) part) ≡ Some (parts negative (d ∷ whole) part)
decimal_spelled negative d whole part h k =
    let text = spelled negative (d ∷ whole) part in
    let bytes = spelled_bytes negative (d ∷ whole) part h k in
    let no_blank = all_imply (IsInRange 45 57) (λ b. is_blank b ≡ false) number_has_no_blank text bytes in
    let no_mark = all_imply (IsInRange 45 57) (λ b. is_exponent_mark b ≡ false) number_has_no_mark text bytes in
    decimal_by text (parts negative (d ∷ whole) part) (trimmed_number text no_blank) (list_any_none is_exponent_mark text (All-from_recursion (λ b. is_exponent_mark b ≡ false) text no_mark))
    (before_first_none is_exponent_mark text no_mark) (plain_spelled negative d whole part h k) refl

digit_value_of : (k : ℕ) → k < 10 → digit_value (48 + k) ≡ k
digit_value_of k h = grind (arith, common_steps, h)

thousands : (q a b c r : ℕ) → a < 10 → b < 10 → c < 10 → r ≡ 100 * a + 10 * b + c → digits_value_after 10 q ((48 + a) ∷ (48 + b) ∷ (48 + c) ∷ []) ≡ 1000 * q + r
thousands q a b c r i j k e = rw (digit_value_of a i, digit_value_of b j, digit_value_of c k) (omega (arith, e))

value_written : (whole : List ℕ) (q r : ℕ) → digits_value 10 whole ≡ q → r < 1000 → digits_value 10 (whole ++ three_digits r) ≡ 1000 * q + r
value_written whole q r e h = digits_value_after-append 0 whole (three_digits r) ∙ ap (λ n. digits_value_after 10 n (three_digits r)) e
    ∙ thousands q (r / 100) (r / 10 % 10) (r % 10) r (omega (arith, h)) (omega arith) (omega arith) (omega arith)

three_are_digits : (r : ℕ) → r < 1000 → Digits (three_digits r)
three_are_digits r h = ((omega arith, omega (arith, h)), ((omega arith, omega arith), ((omega arith, omega arith), tt)))

rounded : (negative : Bool) (v w : ℕ) → v ≡ w → signed negative ((2 * (v * 1) + 1) / 2) ≡ signed negative w
rounded negative v w e = ap (λ n. signed negative n) (omega (arith, e))

-- a text that is read as z, plain, short, and of the bytes of numbers alone
pub record IsNumberText (z : ℤ) (text : List ℕ) : Type 0 where
  pub read : micron_of text ≡ Some z
  pub plain : is_some (plain_of text) ≡ true
  pub bytes : NumberBytes text
  pub short : length text ≤ 24

length-spelled : (negative : Bool) (whole : List ℕ) (r : ℕ) → length whole ≤ 17 → length (spelled negative whole (three_digits r)) ≤ 24
unfolding spelled
length-spelled true whole r h = omega (arith, length-append whole (46 ∷ three_digits r))
length-spelled false whole r h = omega (arith, length-append whole (46 ∷ three_digits r))

spelled_is_read : (negative : Bool) (whole : List ℕ) (q r : ℕ) → 0 < length whole → length whole ≤ 17 → AllDigits 10 whole → digits_value 10 whole ≡ q → r < 1000 →
    IsNumberText (signed negative (1000 * q + r)) (spelled negative whole (three_digits r))
spelled_is_read negative [] q r p s a e h = absurd (omega (arith, p))
spelled_is_read negative (d ∷ whole) q r p s a e h =
    let ds = digits_from (d ∷ whole) a in
    let three = three_are_digits r h in
    record {
      read = ap (λ o. option_map nearest_micron o) (decimal_spelled negative d whole (three_digits r) ds three)
          ∙ ap Some (rounded negative (digits_value 10 (d ∷ whole ++ three_digits r)) (1000 * q + r) (value_written (d ∷ whole) q r e h));
      plain = ap is_some (plain_spelled negative d whole (three_digits r) ds three);
      bytes = spelled_bytes negative (d ∷ whole) (three_digits r) ds three;
      short = length-spelled negative (d ∷ whole) r s;
    }

whole_is_read : (negative : Bool) (n : ℕ) → n < 2 ^ 64 → IsNumberText (signed negative n) (spelled negative (decimal (n / 1000)) (three_digits (n % 1000)))
whole_is_read negative n h =
    let is = decimal_is_IsNumeral (n / 1000) (omega (arith, h)) in
    let short = length-decimal-le 17 (n / 1000) (omega arith) (omega (arith, h)) (omega (arith, h)) in
    let text = spelled negative (decimal (n / 1000)) (three_digits (n % 1000)) in
    let same : 1000 * (n / 1000) + n % 1000 ≡ n = omega arith in
    let P : ℕ → Type 0 = λ v. IsNumberText (signed negative v) text in
    subst P same (spelled_is_read negative (decimal (n / 1000)) (n / 1000) (n % 1000) is.0.0 short is.0.1 is.1 (omega arith))

-- what is written for a number is read as this number
pub written_number : (z : ℤ) → unsigned_abs z < 2 ^ 64 → IsNumberText z (micron_text z)
unfolding spelled
written_number (pos n) h = whole_is_read false n h
written_number (negsuc n) h = whole_is_read true (suc n) h
