use Rattle.std.proofs.Common.{length}
use Rattle.pierce_report.proofs.Tallies.{AreTallied}
use Rattle.pierce_report.proofs.ByComponent.{edge_component, each_one}
use Rattle.pierce_report.proofs.counts.edge_counts.Given as goal

abbrev pub invariant-loop-k : goal.invariant-loop-k
invariant-loop-k l = AreTallied (edge_component l.graph) each_one (length l.graph.marks) l.k l.counts.items
