use Rattle.half_edges.proofs.BurntEdges.{burnt_few}
use Rattle.half_edges.proofs.burns.Burns.mark.Goals as goal

pub returns-clause-few : goal.returns-clause-few
returns-clause-few c = rw (← c.self.view_is) (burnt_few _ _ c.self.invariant.flags.within c.self.invariant.flags.once)

pub returns-clause-once : goal.returns-clause-once
returns-clause-once c = rw (← c.self.view_is) c.self.invariant.flags.once
