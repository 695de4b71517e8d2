-- Decimals in millimetres: their grammar, their value, the nearest micrometre, and how micrometres are written.
use Rattle.std.specs.Prelude.{◌≡◌, ℕ, ◌+◌, ◌*◌, ◌^◌, ◌/◌, ◌%◌, ◌<◌, ◌≤◌, Bool, true, false, ◌||◌, ◌&&◌, ◌==◌, nat_lt, nat_le, if◌then◌else◌, List, [], ◌∷◌, ◌++◌, length, ℤ, pos, negsuc, neg_ℤ, ◌+ℤ◌, ◌-ℤ◌, ◌*ℤ◌, unsigned_abs, Option, Some, None, option_map, option_and_then}
use Rattle.std.specs.Char.{is_ascii_digit}
use Rattle.std.specs.Fmt.{decimal}
use Rattle.std.specs.List.{list_all, list_any, before_first, after_first}
use Rattle.std.specs.Ordering.{int_eq}
use Rattle.std.specs.Str.Parse.{digits_value, starts_with_minus, without_leading_sign, signed_digits_value}
use Rattle.nest_base.specs.Lines.{trimmed}

-- the parts of a decimal: its sign, the digits before and after the point, and its exponent
pub record Decimal : Type 0 where
  pub negative : Bool
  pub whole : List ℕ
  pub part : List ℕ
  pub power : ℤ

-- the point between the whole millimetres and the rest
abbrev pub is_point : ℕ → Bool
is_point b = b == 46

-- the mark before an exponent, e or E
abbrev pub is_exponent_mark : ℕ → Bool
is_exponent_mark b = (b == 101) || (b == 69)

-- digits alone
abbrev pub are_digits : List ℕ → Bool
are_digits text = list_all is_ascii_digit text

-- an optional sign and at least one digit
abbrev pub signed_of : List ℕ → Option ℤ
signed_of text = let ds = without_leading_sign text in
    if nat_lt 0 (length ds) && are_digits ds then Some (signed_digits_value 10 text) else None

-- an optional sign and digits with at most one point, at least one digit among them
abbrev pub plain_of : List ℕ → Option Decimal
plain_of text =
    let rest = without_leading_sign text in
    let whole = before_first is_point rest in
    let part = after_first is_point rest in
    if nat_lt 0 (length (whole ++ part)) && are_digits (whole ++ part) then Some (record { negative = starts_with_minus text; whole = whole; part = part; power = pos 0 }) else None

-- what follows the mark of an exponent, or 0 where there is none
abbrev pub power_of : List ℕ → Option ℤ
power_of text = if list_any is_exponent_mark text then signed_of (after_first is_exponent_mark text) else Some (pos 0)

-- a decimal without an exponent, with this one
abbrev pub with_power : Option Decimal → ℤ → Option Decimal
with_power plain power = option_map (λ (d : Decimal). record d { power = power }) plain

-- the decimal that a text is, without blanks and tabs at both ends; none where it isn't in the grammar
abbrev pub decimal_of : List ℕ → Option Decimal
decimal_of text = let rest = trimmed text in option_and_then (with_power (plain_of (before_first is_exponent_mark rest))) (power_of rest)

-- the whole number that an optional sign and 1 to 9 digits write, without blanks and tabs at both ends; none for any other text
abbrev pub integer_of : List ℕ → Option ℤ
integer_of text = let rest = trimmed text in if nat_le (length (without_leading_sign rest)) 9 then signed_of rest else None

-- a number with a minus, or without
abbrev pub signed : Bool → ℕ → ℤ
signed true n = neg_ℤ (pos n)
signed false n = pos n

-- ten to this power, where it isn't negative, and else 1
abbrev pub raised : ℤ → ℕ
raised (pos n) = 10 ^ n
raised (negsuc n) = 1

-- the value of d is its digits, read as one whole number, times ten to this power
abbrev pub scale : Decimal → ℤ
scale d = d.power -ℤ pos (length d.part)

-- the value of d times ten to the power k, with its sign, is the fraction `top` over `down`
abbrev pub top : Decimal → ℕ → ℕ
top d k = digits_value 10 (d.whole ++ d.part) * raised (scale d +ℤ pos k)

-- what `top` is divided by
abbrev pub down : Decimal → ℕ → ℕ
down d k = raised (neg_ℤ (scale d +ℤ pos k))

-- how far n lies from the fraction t over `below`, times `below`
abbrev pub gap : ℤ → ℤ → ℕ → ℕ
gap n t below = unsigned_abs ((n *ℤ pos below) -ℤ t)

-- n is the whole number nearest to the fraction t over `below`, of two the one further from zero
pub record IsNearest (n t : ℤ) (below : ℕ) : Type 0 where
  pub near : 2 * gap n t below ≤ below
  pub tie : 2 * gap n t below ≡ below → unsigned_abs t < unsigned_abs n * below

-- n is the whole micrometre nearest to a decimal in millimetres, of two the one further from zero
abbrev pub IsNearestMicron : Decimal → ℤ → Type 0
IsNearestMicron d n = IsNearest n (signed d.negative (top d 3)) (down d 3)

-- n is the whole micrometre nearest to a text in millimetres
abbrev pub IsMicron : List ℕ → ℤ → Type 0
IsMicron text n = (d : Decimal) × (decimal_of text ≡ Some d) × IsNearestMicron d n

-- a text in millimetres, whose nearest whole micrometre lies beyond plus and minus `limit`
abbrev pub IsMicronBeyond : List ℕ → ℤ → Type 0
IsMicronBeyond text limit = (n : ℤ) × IsMicron text n × (unsigned_abs limit < unsigned_abs n)

-- the size of this micrometre, by a division
abbrev pub nearest_size : Decimal → ℕ
nearest_size d = (2 * top d 3 + down d 3) / (2 * down d 3)

-- the whole micrometre nearest to a decimal in millimetres, by a division
abbrev pub nearest_micron : Decimal → ℤ
nearest_micron d = signed d.negative (nearest_size d)

-- a text in millimetres, in micrometres
abbrev pub micron_of : List ℕ → Option ℤ
micron_of text = option_map nearest_micron (decimal_of text)

-- the value of a decimal is exactly this whole number
abbrev pub is_exactly : Decimal → ℤ → Bool
is_exactly d whole = int_eq (signed d.negative (top d 0)) (whole *ℤ pos (down d 0))

-- whether a text is exactly this whole number; none where it isn't in the grammar
abbrev pub equals_of : List ℕ → ℤ → Option Bool
equals_of text whole = option_map (λ (d : Decimal). is_exactly d whole) (decimal_of text)

-- a minus where the number is negative
abbrev pub sign_text : ℤ → List ℕ
sign_text (pos n) = []
sign_text (negsuc n) = 45 ∷ []

-- the three digits of a number below 1,000
abbrev pub three_digits : ℕ → List ℕ
three_digits n = (48 + n / 100) ∷ (48 + n / 10 % 10) ∷ (48 + n % 10) ∷ []

-- micrometres as millimetres with three digits after the point
abbrev pub micron_text : ℤ → List ℕ
micron_text z = sign_text z ++ decimal (unsigned_abs z / 1000) ++ 46 ∷ three_digits (unsigned_abs z % 1000)
