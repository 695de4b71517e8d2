use Rattle.half_edges.specs.Graph.{rotations_of}
use Rattle.cover_walks.specs.Choices.{Passes}
use Rattle.component_route.specs.Scans.{avoided_of, burnt_in, seen}
use Rattle.component_route.proofs.scan.scan.Given as goal

abbrev pub invariant-loop-i : goal.invariant-loop-i
invariant-loop-i l = Passes (seen l.turn (rotations_of l.graph)) (burnt_in l.graph) l.fn.after.0 (avoided_of (rotations_of l.graph).sides l.avoid) l._i l.s.0
