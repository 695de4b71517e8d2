use Rattle.std.proofs.Common.{◌≡◌, ◌<◌, ◌^◌, true, drop}
use Rattle.std.specs.Char.{is_ascii_digit}
use Rattle.std.specs.List.{list_all}
use Rattle.std.specs.Str.Parse.{digits_value_after}
use Rattle.dxf_groups.proofs.code.number.Given as goal

-- the digits that are left, behind the number so far, write the number
abbrev pub invariant-loop-digit : goal.invariant-loop-digit
invariant-loop-digit l = record {
  small : l.value < 10 ^ l.digit-index;
  digits : list_all is_ascii_digit (drop l.digit-index l.digits) ≡ true;
  value : digits_value_after 10 l.value (drop l.digit-index l.digits) ≡ digits_value_after 10 0 l.digits;
}
