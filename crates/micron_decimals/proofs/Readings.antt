-- What is read of a text, by what is read of its parts.
use Rattle.std.proofs.Common.{arith, ◌≡◌, ℕ, suc, zero, ◌+◌, ◌^◌, ◌<◌, ◌≤◌, Bool, true, false, ◌&&◌, cond, List, length, ℤ, pos, negsuc, lit<, Some, None, Option, refl, sym, ap, subst, ◌∙◌}
use Rattle.std.specs.Prelude.{if◌then◌else◌, neg_ℤ, unsigned_abs, nat_lt, option_and_then}
use Rattle.std.specs.Option.{option_map}
use Rattle.std.specs.Str.Parse.{digits_value, signed_digits_value, starts_with_minus, without_leading_sign}
use Rattle.std.proofs.Math.Nat.{pow-le-pow_right}
use Rattle.std.proofs.lemmas.Bool.{and_parts, le-leb}
use Rattle.nest_base.specs.Lines.{trimmed}
use Rattle.micron_decimals.specs.Decimals.{Decimal, are_digits, signed_of, integer_of, with_power, nearest_micron}
use Rattle.micron_decimals.specs.Places.{far, capped, clamped, with_clamped_power}
use Rattle.micron_decimals.proofs.Exponents.{clamped_same}
use Rattle.micron_decimals.proofs.Values.{value_below}

-- a decimal with the exponent that is read
pub read_with_power : (plain : Option Decimal) (o : Option ℤ) (z : ℤ) → Some z ≡ option_map clamped o → with_power plain z ≡ option_map with_clamped_power (option_and_then (with_power plain) o)
read_with_power plain None z e = absurd (cc)
read_with_power None (Some y) z e = refl
read_with_power (Some d) (Some y) z e = ap (λ (x : ℤ). Some (record d { power = x })) same
  where
    same : z ≡ clamped y
    same = cc

-- what each decimal that is read as p gives, the decimal of the text gives
pub read_gives : {Y : Type 0} (f : Decimal → Y) (o : Option Decimal) (p : Decimal) (y : Y) → Some p ≡ option_map with_clamped_power o → ((d : Decimal) → with_clamped_power d ≡ p → y ≡ f d) → Some y ≡ option_map f o
read_gives f None p y e h = absurd (cc)
read_gives f (Some d) p y e h = ap (λ x. Some x) (h d same)
  where
    same : with_clamped_power d ≡ p
    same = cc

pub clamped_nearest : (o : Option Decimal) → option_map (λ d. clamped (nearest_micron d)) o ≡ option_map clamped (option_map nearest_micron o)
clamped_nearest None = refl
clamped_nearest (Some d) = refl

size-clamped : (z : ℤ) → unsigned_abs (clamped z) ≡ capped (unsigned_abs z)
size-clamped (pos n) = refl
size-clamped (negsuc n) = by (capped (n + 1)) ∙ next
  where
    by : (m : ℕ) → unsigned_abs (neg_ℤ (pos m)) ≡ m
    by zero = refl
    by (suc m) = refl

    next : capped (n + 1) ≡ capped (suc n)
    next = omega arith

-- a number below `far` is what was clamped
clamped_back : (z : ℤ) → unsigned_abs (clamped z) < far → clamped z ≡ z
clamped_back z h = clamped_same z (omega (arith, h, size-clamped z))

-- the number that was clamped
clamped_from : (o : Option ℤ) (n : ℤ) → Some n ≡ option_map clamped o → (z : ℤ) × (o ≡ Some z) × (n ≡ clamped z)
clamped_from None n e = absurd (cc)
clamped_from (Some z) n e = (z, refl, cc)

-- a number below `far` that was read is the number
pub read_below_far : (o : Option ℤ) (n : ℤ) → Some n ≡ option_map clamped o → unsigned_abs n < far → o ≡ Some n
read_below_far o n e h =
    let found = clamped_from o n e in
    found.1 ∙ ap (λ (x : ℤ). Some x) (sym (clamped_back found.0 (subst (λ x. unsigned_abs x < far) found.2 h)) ∙ sym found.2)

-- a number that was read is no greater than the number
pub read_size : (o : Option ℤ) (n : ℤ) → Some n ≡ option_map clamped o → (z : ℤ) × (o ≡ Some z) × (unsigned_abs n ≤ unsigned_abs z)
read_size o n e =
    let found = clamped_from o n e in
    (found.0, found.1, omega (arith, ap unsigned_abs found.2, size-clamped found.0))

size_with_sign : (negative : Bool) (n : ℕ) → unsigned_abs (cond negative (neg_ℤ (pos n)) (pos n)) ≡ n
size_with_sign false n = refl
size_with_sign true zero = refl
size_with_sign true (suc n) = refl

test_holds : (b : Bool) (v z : ℤ) → (if b then Some v else None) ≡ Some z → (b ≡ true) × (v ≡ z)
test_holds true v z e = (refl, cc)
test_holds false v z e = absurd (cc)

-- at most nine digits write a number below 1,000,000,000
signed_size : (text : List ℕ) (z : ℤ) → length (without_leading_sign text) ≤ 9 → signed_of text ≡ Some z → unsigned_abs z < 10 ^ 9
signed_size text z h e =
    let ds = without_leading_sign text in
    let tested = test_holds (nat_lt 0 (length ds) && are_digits ds) (signed_digits_value 10 text) z e in
    let below = value_below ds (and_parts (nat_lt 0 (length ds)) (are_digits ds) tested.0).1 in
    let most = pow-le-pow_right {n = 10} (lit< tt) {i = length ds} {j = 9} h in
    omega (arith, below, most, sym (ap unsigned_abs tested.1) ∙ size_with_sign (starts_with_minus text) (digits_value 10 ds))

-- at most nine digits are read as the number that they write
pub short_is_read : (text : List ℕ) (n : ℤ) → length (without_leading_sign text) ≤ 9 → Some n ≡ option_map clamped (signed_of text) → (signed_of text ≡ Some n) × (unsigned_abs n < 10 ^ 9)
short_is_read text n h e =
    let found = clamped_from (signed_of text) n e in
    let small = signed_size text found.0 h found.1 in
    let same : n ≡ found.0 = found.2 ∙ clamped_same found.0 (omega (arith, small)) in
    (found.1 ∙ ap (λ (x : ℤ). Some x) (sym same), subst (λ x. unsigned_abs x < 10 ^ 9) (sym same) small)

-- a text with at most nine digits
pub integer_is : (text : List ℕ) → length (without_leading_sign (trimmed text)) ≤ 9 → integer_of text ≡ signed_of (trimmed text)
integer_is text h = ap (λ b. if b then signed_of (trimmed text) else None) (le-leb (length (without_leading_sign (trimmed text))) 9 h)
