use Rattle.pierce_bound.proofs.limits.limit.Goals as goal

pub returns : goal.returns
returns c = λ mark at.
    let outer = c.has_odd_outer.ensures in
    c.limit_of.ensures c.args.graph.now.edges mark (c.odd_count.ensures mark at) (λ is. outer.some is mark at) (λ not. outer.none not mark at)
