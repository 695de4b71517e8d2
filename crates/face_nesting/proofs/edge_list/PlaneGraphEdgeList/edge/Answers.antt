use Rattle.std.proofs.Common.{arith, Some, ◌∙◌}
use Rattle.nest_base.specs.Range.{IsEdgeWithin, widest}
use Rattle.nest_base.proofs.ListReads.{read_below, one_read, All-read}
use Rattle.half_edges.proofs.Numbers.{length-half_edges, side_low}
use Rattle.face_nesting.proofs.edge_list.PlaneGraphEdgeList.edge.Goals as goal

pub from-requires : goal.from-requires
from-requires c = omega (arith, c.requires.within, length-half_edges c.args.self.now.edges)

pub to-requires : goal.to-requires
to-requires c = omega (arith, c.requires.within, length-half_edges c.args.self.now.edges)

-- the edge itself
pub returns-clause-edge : goal.returns-clause-edge
returns-clause-edge c =
    let graph = c.args.self.now in
    let edge = read_below graph.edges c.args.k c.requires.within in
    let side = side_low graph.edges c.args.k edge.0 edge.1 in
    let low = one_read graph.vertices c.from.result.0 edge.0.low c.place.result (c.from.ensures.vertex _ side) c.place.ensures in
    let high = one_read graph.vertices c.to.result.0 edge.0.high c.place-2.result (c.to.ensures.vertex _ side) c.place-2.ensures in
    edge.1 ∙ (λ i. Some (record { low = low i; high = high i }))

pub returns-clause-near : goal.returns-clause-near
returns-clause-near c = All-read (IsEdgeWithin widest) c.args.self.now.edges c.args.k _ c.requires.near (returns-clause-edge c)
