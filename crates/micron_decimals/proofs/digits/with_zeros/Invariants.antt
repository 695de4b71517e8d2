use Rattle.std.proofs.Common.{◌≡◌, ◌≤◌, ◌*◌, ◌^◌}
use Rattle.micron_decimals.specs.Places.{far, capped}
use Rattle.micron_decimals.proofs.digits.with_zeros.Given as goal

abbrev pub invariant-loop-done : goal.invariant-loop-done
invariant-loop-done l = record {
  small : l.value ≤ far;
  value : l.value ≡ capped (l.number * 10 ^ l.done);
}
