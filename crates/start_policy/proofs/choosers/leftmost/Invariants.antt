use Rattle.std.specs.Prelude.{◌≤◌, ◌<◌, length}
use Rattle.start_policy.specs.Choices.{IsWestOf}
use Rattle.start_policy.proofs.FirstSites.{IsFirstBelow}
use Rattle.start_policy.proofs.choosers.leftmost.Given as goal

-- the first of those before k
abbrev pub invariant-loop-k : goal.invariant-loop-k
invariant-loop-k l = record {
  first : IsFirstBelow IsWestOf l.sites l.k l.first;
  within : l.first < length l.sites;
  up_to : l.k ≤ length l.sites;
}
