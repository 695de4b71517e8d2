use Rattle.std.specs.Prelude.{◌≡◌, ◌≤◌, ◌<◌, length}
use Rattle.std.proofs.Common.{get_or}
use Rattle.start_policy.specs.Choices.{IsNearer, squared_distance}
use Rattle.start_policy.proofs.FirstSites.{IsFirstBelow, nowhere}
use Rattle.start_policy.proofs.choosers.nearest.Given as goal

-- the first of those before k, and its distance
abbrev pub invariant-loop-k : goal.invariant-loop-k
invariant-loop-k l = record {
  first : IsFirstBelow (IsNearer l.last) l.sites l.k l.first;
  within : l.first < length l.sites;
  up_to : l.k ≤ length l.sites;
  least : l.least ≡ squared_distance (get_or l.sites l.first nowhere).at l.last;
}
