use Rattle.lead_ins.proofs.EdgeReads.{low_number, edge_read}
use Rattle.lead_ins.proofs.clear.edge_at.Goals as goal

pub from-requires : goal.from-requires
from-requires c = low_number c.args.graph.now.edges c.args.k c.requires.within

pub to-requires : goal.to-requires
to-requires c = low_number c.args.graph.now.edges c.args.k c.requires.within

pub returns : goal.returns
returns c =
    edge_read c.args.graph.now.edges c.args.graph.now.vertices c.args.k c.from.result.0 c.to.result.0 c.place.result c.place-2.result c.requires.within
    c.from.ensures.vertex c.place.ensures c.to.ensures.vertex c.place-2.ensures
