use Rattle.std.proofs.Common.{◌≡◌, []}
use Rattle.rotation_systems.specs.RotationSystem.{total}
use Rattle.half_edges.specs.Graph.{rotations_of, component_of}
use Rattle.cover_walks.specs.Walks.{odd_within}
use Rattle.pierce_bound.proofs.odd.odd_count.Given as goal

abbrev pub invariant-loop-v : goal.invariant-loop-v
invariant-loop-v l = l.count ≡ total (odd_within (rotations_of l.graph) (component_of l.graph) l.c.0 []) l.v
