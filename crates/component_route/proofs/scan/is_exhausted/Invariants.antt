use Rattle.half_edges.specs.Graph.{rotations_of}
use Rattle.cover_walks.specs.Choices.{Turned}
use Rattle.component_route.specs.Scans.{burnt_in}
use Rattle.component_route.proofs.scan.is_exhausted.Given as goal

abbrev pub invariant-loop-i : goal.invariant-loop-i
invariant-loop-i l = Turned (rotations_of l.graph) (burnt_in l.graph) l.fn.s.0 l._i l.at.0
