use Rattle.std.proofs.Common.{◌≡◌, ◌≤◌, true, drop}
use Rattle.std.specs.Str.Parse.{digits_value_after}
use Rattle.micron_decimals.specs.Decimals.{are_digits}
use Rattle.ngc_meaning.proofs.SmallNumbers.{up_to_100}
use Rattle.ngc_meaning.proofs.number.value.Given as goal

-- the digits that are left, behind the number so far, write the number
abbrev pub invariant-loop-digit : goal.invariant-loop-digit
invariant-loop-digit l = record {
  small : l.value ≤ 100;
  digits : are_digits (drop l.digit-index l.digits) ≡ true;
  value : up_to_100 (digits_value_after 10 l.value (drop l.digit-index l.digits)) ≡ up_to_100 (digits_value_after 10 0 l.digits);
}
