use Rattle.half_edges.proofs.BurntGraphs.{burnt_within}
use Rattle.half_edges.proofs.graph.PlaneGraph.mark.Goals as goal

pub returns-clause-burnt_within : goal.returns-clause-burnt_within
returns-clause-burnt_within c = rw (← c.self.view_is) (burnt_within c.self.invariant c.mark.ensures.within)

pub returns-clause-burnt_once : goal.returns-clause-burnt_once
returns-clause-burnt_once c = rw (← c.self.view_is) c.mark.ensures.once
