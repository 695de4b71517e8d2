use Rattle.replay_check.proofs.LeastUnburnt.{IsLeastSoFar}
use Rattle.replay_check.proofs.missed.least_unburnt.Given as goal

-- the least of the edges so far is found
abbrev pub invariant-loop-k : goal.invariant-loop-k
invariant-loop-k l = IsLeastSoFar l.graph.edges l.is_burnt l.k l.least
