use Rattle.half_edges.proofs.BurntGraphs.{burnable}
use Rattle.half_edges.proofs.graph.PlaneGraph.is_burnt.Goals as goal

pub is_burnt-requires : goal.is_burnt-requires
is_burnt-requires c = burnable c.self.invariant c.args.s.0 (rw (← c.self.view_is) at c.requires)

pub returns : goal.returns
returns c = rw (← c.self.view_is) c.is_burnt.ensures
