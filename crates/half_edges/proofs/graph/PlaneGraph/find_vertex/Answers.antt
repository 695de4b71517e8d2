use Rattle.half_edges.proofs.GraphReads.{few_vertices}
use Rattle.half_edges.proofs.PlaceNumbers.{none_weaker}
use Rattle.half_edges.proofs.graph.PlaneGraph.find_vertex.Goals as goal

pub number_of-requires : goal.number_of-requires
number_of-requires c = few_vertices c.self.invariant.graph

pub returns-clause-none : goal.returns-clause-none
returns-clause-none c = rw (← c.self.view_is) (none_weaker c.number_of.result (c.self.invariant.graph.layout.are_vertices.are_all c.args.p).1 c.number_of.ensures.none)
