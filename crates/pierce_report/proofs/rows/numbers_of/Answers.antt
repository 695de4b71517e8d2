use Rattle.pierce_report.proofs.rows.numbers_of.Goals as goal

pub returns-clause-row : goal.returns-clause-row
returns-clause-row c = λ mark at has odd.
    let edges = c.args.graph.now.edges in
    let outer = c.has_odd_outer.ensures in
    record {
      has_edges = has;
      has_odd = odd;
      has_bound = c.bound_of.ensures edges mark odd;
      has_limit = c.limit_of.ensures edges mark odd (λ is. outer.some is mark at) (λ not. outer.none not mark at);
    }
