use Rattle.std.proofs.Common.{◌≡◌, ◌*◌, ◌≤◌, None}
use Rattle.benches.proofs.groups.pairs_of.Given as goal

abbrev pub invariant-loop : goal.invariant-loop
invariant-loop l = record {
  counted : l.groups.taken ≡ 719 * l.counter;
  not_ended : l.groups.answer ≡ None;
  few : l.end ≤ 90000;
}
