use Rattle.half_edges.proofs.BurntGraphs.{burnable}
use Rattle.half_edges.proofs.graph.PlaneGraph.burn.Goals as goal

pub burn-requires-clause-within : goal.burn-requires-clause-within
burn-requires-clause-within c = burnable c.self.invariant c.args.s.0 (rw (← c.self.view_is) at c.requires.within)
