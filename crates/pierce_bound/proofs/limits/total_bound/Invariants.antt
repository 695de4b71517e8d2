use Rattle.pierce_bound.proofs.Summed.{AreSummed}
use Rattle.pierce_bound.proofs.limits.total_bound.Given as goal

abbrev pub invariant-loop-c : goal.invariant-loop-c
invariant-loop-c l = AreSummed l.graph l.c l.total
