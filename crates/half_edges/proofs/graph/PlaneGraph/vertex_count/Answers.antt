use Rattle.std.proofs.Common.{arith}
use Rattle.half_edges.proofs.GraphReads.{few_vertices}
use Rattle.half_edges.proofs.RoundOfGraph.{round_of_graph}
use Rattle.half_edges.proofs.graph.PlaneGraph.vertex_count.Goals as goal

pub overflow_cast-result : goal.overflow_cast-result
overflow_cast-result c = omega (arith, c.len.ensures.len, few_vertices c.self.invariant.graph)

pub returns-clause-round : goal.returns-clause-round
returns-clause-round c = rw (← c.self.view_is) (round_of_graph _ c.self.invariant.graph)
