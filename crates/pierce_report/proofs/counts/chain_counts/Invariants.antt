use Rattle.std.proofs.Common.{length}
use Rattle.pierce_report.proofs.Tallies.{AreTallied}
use Rattle.pierce_report.proofs.ByComponent.{chain_component_at, each_one}
use Rattle.pierce_report.proofs.counts.chain_counts.Given as goal

abbrev pub invariant-loop-k : goal.invariant-loop-k
invariant-loop-k l = AreTallied (chain_component_at l.graph l.plan) each_one (length l.graph.marks) l.k l.counts.items
