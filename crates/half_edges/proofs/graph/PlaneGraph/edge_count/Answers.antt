use Rattle.std.proofs.Common.{arith}
use Rattle.std.proofs.lemmas.List.{length-map}
use Rattle.half_edges.proofs.GraphReads.{few_sides, length-origins}
use Rattle.half_edges.proofs.PlaneGraphs.{plane_graph}
use Rattle.half_edges.proofs.graph.PlaneGraph.edge_count.Goals as goal

pub overflow_cast-result : goal.overflow_cast-result
overflow_cast-result c =
    omega (arith, c.len.ensures, c.self.inside.layout.origins.ok.0, length-map c.self.inside.layout.origins.items (λ v. v.0), length-origins c.self.invariant.graph, few_sides c.self.invariant.graph)

pub returns-clause-count : goal.returns-clause-count
returns-clause-count c = rw (← c.self.view_is)
    (omega (arith, c.len.ensures, c.self.inside.layout.origins.ok.0, length-map c.self.inside.layout.origins.items (λ v. v.0), length-origins c.self.invariant.graph, few_sides c.self.invariant.graph))

pub returns-clause-plane_graph : goal.returns-clause-plane_graph
returns-clause-plane_graph c = rw (← c.self.view_is) (plane_graph c.self.invariant.graph)
