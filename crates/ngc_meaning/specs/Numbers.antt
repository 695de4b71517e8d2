-- The numbers of words.
use Rattle.std.specs.Prelude.{ℕ, Bool, false, ◌&&◌, nat_lt, nat_eq, if◌then◌else◌, List, length, ℤ, Option, Some, None}
use Rattle.std.specs.List.{list_any}
use Rattle.std.specs.Option.{option_map_or}
use Rattle.std.specs.Str.Parse.{digits_value}
use Rattle.micron_decimals.specs.Decimals.{are_digits}
use Rattle.code_moves.specs.Meaning.{is_near}
use Rattle.ngc_meaning.specs.declared.number.Coordinate.{Coordinate}
use Rattle.ngc_meaning.specs.declared.number.Coordinate.TheVariants.{At, TooFar}

-- a number in digits alone, where it's below 100, as each is that has a meaning behind G or M
abbrev pub small_number : List ℕ → Option ℕ
small_number text = if nat_lt 0 (length text) && are_digits text && nat_lt (digits_value 10 text) 100 then Some (digits_value 10 text) else None

-- it is one of these
abbrev pub is_among : List ℕ → Option ℕ → Bool
is_among numbers n = option_map_or (λ k. list_any (nat_eq k) numbers) n false

-- a coordinate, in micrometres; a word without a number isn't read, so that case is free
abbrev pub coordinate_of : Option ℤ → Coordinate
coordinate_of None = TooFar
coordinate_of (Some n) = if is_near n then At n else TooFar
