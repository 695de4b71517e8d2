use Rattle.pierce_report.proofs.OddCounts.{AreCounted}
use Rattle.pierce_report.proofs.counts.odd_counts.Given as goal

abbrev pub invariant-loop-v : goal.invariant-loop-v
invariant-loop-v l = AreCounted l.graph l.v l.counts.items
