use Rattle.pierce_bound.proofs.NoFewer.{no_fewer_in}
use Rattle.pierce_bound.proofs.limits.bound.Goals as goal

pub returns-clause-bound : goal.returns-clause-bound
returns-clause-bound c = λ mark at. c.bound_of.ensures c.args.graph.now.edges mark (c.odd_count.ensures mark at)

pub returns-clause-none_undercuts : goal.returns-clause-none_undercuts
returns-clause-none_undercuts c = λ mark at.
    no_fewer_in c.graph_is_plane.ensures c.args.c.0 c.bound_of.result mark at (c.bound_of.ensures c.args.graph.now.edges mark (c.odd_count.ensures mark at))
