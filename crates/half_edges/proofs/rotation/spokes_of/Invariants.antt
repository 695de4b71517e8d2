use Rattle.half_edges.specs.Spokes.{AreFirstSpokes}
use Rattle.half_edges.proofs.rotation.spokes_of.Given as goal

abbrev pub invariant-loop-k : goal.invariant-loop-k
invariant-loop-k l = AreFirstSpokes l.edges l.k l.spokes.items
