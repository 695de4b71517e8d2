use Rattle.std.proofs.Common.{◌≡◌, ◌≤◌, true, drop}
use Rattle.std.specs.Str.Parse.{digits_value_after}
use Rattle.micron_decimals.specs.Decimals.{are_digits}
use Rattle.micron_decimals.specs.Places.{far, capped}
use Rattle.micron_decimals.proofs.digits.number.Given as goal

-- the digits that are left, behind the number so far, write the number
abbrev pub invariant-loop-digit : goal.invariant-loop-digit
invariant-loop-digit l = record {
  small : l.value ≤ far;
  digits : are_digits (drop l.digit-index l.digits) ≡ true;
  value : capped (digits_value_after 10 l.value (drop l.digit-index l.digits)) ≡ capped (digits_value_after 10 l.before l.digits);
}
