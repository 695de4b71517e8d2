-- Decimals by the places of their digits, as they are read.
use Rattle.std.specs.Prelude.{◌≤◌, ◌<◌, ℕ, ◌+◌, ◌-◌, ◌*◌, ◌^◌, min, Bool, ◌==◌, nat_le, if◌then◌else◌, List, ◌++◌, length, take, slice_index, IsTrue, ℤ, pos, negsuc, neg_ℤ, ◌+ℤ◌, unsigned_abs}
use Rattle.std.specs.Str.Parse.{digits_value}
use Rattle.micron_decimals.specs.Decimals.{Decimal, are_digits}

-- numbers from here on are all taken for this one: it lies beyond every limit, and no text has as many bytes
abbrev pub far : ℕ
far = 100000000000000000000

-- a number up to `far`
abbrev pub capped : ℕ → ℕ
capped n = min n far

-- a number up to `far` either way from 0
abbrev pub clamped : ℤ → ℤ
clamped (pos n) = pos (capped n)
clamped (negsuc n) = neg_ℤ (pos (capped (n + 1)))

-- a decimal, with its exponent up to `far` either way from 0
abbrev pub with_clamped_power : Decimal → Decimal
with_clamped_power d = record d { power = clamped d.power }

-- the digits of a decimal, before and after the point
abbrev pub digits_of : Decimal → List ℕ
digits_of d = d.whole ++ d.part

-- a decimal of digits, fewer than 2 ^ 64 before the point and after it, whose exponent lies within `far`
pub record IsReadable (d : Decimal) : Type 0 where
  pub digits : IsTrue (are_digits (d.whole ++ d.part))
  pub whole : length d.whole < 2 ^ 64
  pub part : length d.part < 2 ^ 64
  pub power : unsigned_abs d.power ≤ far

-- a digit 0
abbrev pub is_zero : ℕ → Bool
is_zero b = b == 48

-- a digit that rounds up: 5 or more
abbrev pub rounds_up : ℕ → Bool
rounds_up b = nat_le 53 b

-- how many digits stand before the point of ten to the power k times the value
abbrev pub point_place : Decimal → ℤ → ℤ
point_place d k = (pos (length d.whole) +ℤ d.power) +ℤ k

-- the first p digits as a whole number, with zeros where the digits end
abbrev pub front_value : ℕ → List ℕ → ℕ
front_value p ds = digits_value 10 (take p ds) * 10 ^ (p - length ds)

-- the whole number nearest to these digits with the point at this place, of two the greater
abbrev pub rounded_at : ℤ → List ℕ → ℕ
rounded_at (pos p) ds = front_value p ds + (if rounds_up (slice_index ds p) then 1 else 0)
rounded_at (negsuc p) ds = 0
