use Rattle.std.proofs.Common.{map}
use Rattle.half_edges.specs.Runs.{from_at}
use Rattle.half_edges.proofs.Grouping.{AreRuns}
use Rattle.half_edges.proofs.layout.runs_of.Given as goal

abbrev pub invariant-loop-k : goal.invariant-loop-k
invariant-loop-k l = AreRuns (from_at l.edges (map (λ s. s.0) l.all)) l.k l.places.keys l.starts.items
