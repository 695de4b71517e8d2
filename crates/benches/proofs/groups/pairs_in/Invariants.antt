use Rattle.std.proofs.Common.{◌≡◌, ◌+◌, None}
use Rattle.benches.proofs.groups.pairs_in.Given as goal

abbrev pub invariant-loop-byte : goal.invariant-loop-byte
invariant-loop-byte l = record {
  counted : l.groups.taken ≡ l.fn.groups.taken + l.byte-index;
  not_ended : l.groups.answer ≡ None;
}
