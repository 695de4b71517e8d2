use Rattle.std.proofs.Common.{arith}
use Rattle.half_edges.proofs.GraphReads.{few_marks}
use Rattle.half_edges.proofs.PlaneGraphs.{plane_graph}
use Rattle.half_edges.proofs.graph.PlaneGraph.component_count.Goals as goal

pub overflow_cast-result : goal.overflow_cast-result
overflow_cast-result c = omega (arith, c.len.ensures, c.self.inside.components.marks.ok.0, few_marks c.self.invariant.graph)

pub returns-clause-few : goal.returns-clause-few
returns-clause-few c = rw (← c.self.view_is) (few_marks c.self.invariant.graph)

pub returns-clause-plane_graph : goal.returns-clause-plane_graph
returns-clause-plane_graph c = rw (← c.self.view_is) (plane_graph c.self.invariant.graph)
