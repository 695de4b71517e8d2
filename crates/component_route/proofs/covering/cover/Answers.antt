use Rattle.std.proofs.Common.{arith, refl}
use Rattle.half_edges.proofs.Numbers.{length-half_edges}
use Rattle.component_route.proofs.Burning.{burnt_where, only_burnt}
use Rattle.component_route.proofs.ConnectedComponents.{is_connected}
use Rattle.component_route.proofs.Endings.{covered_burnt, encloses_at_end, edges_at_end, last_at_end, few_at_end, fresh_at}
use Rattle.component_route.proofs.covering.cover.Goals as goal

pub prove-unreachable-requires : goal.prove-unreachable-requires
prove-unreachable-requires c = omega (arith, c.if-prove.true, c.requires.start, length-half_edges c.args.graph.now.edges, c.edge_count.ensures.count)

pub cover_component-requires-clause-fresh : goal.cover_component-requires-clause-fresh
cover_component-requires-clause-fresh c = fresh_at c.args.graph.now c.args.start.0 c.args.start.0 c.edge_count.ensures.plane_graph c.requires.unburnt c.requires.start refl

pub cover_component-requires-clause-room : goal.cover_component-requires-clause-room
cover_component-requires-clause-room c = omega (arith, c.requires.room, length-half_edges c.args.graph.now.edges)

pub returns-clause-encloses : goal.returns-clause-encloses
returns-clause-encloses c = encloses_at_end c.args.graph.now c.args.start.0 c.cover_component.new.graph c.cover_component.new.route c.cover_component.ensures.main c.cover_component.ensures.empty

pub returns-clause-edges : goal.returns-clause-edges
returns-clause-edges c =
    edges_at_end c.args.graph.now c.args.start.0 c.cover_component.new.graph c.cover_component.new.route c.cover_component.ensures.main c.cover_component.ensures.empty
    (is_connected c.args.graph.now c.edge_count.ensures.plane_graph c.args.start.0 c.requires.start)

pub returns-clause-last : goal.returns-clause-last
returns-clause-last c = last_at_end c.args.graph.now c.args.start.0 c.cover_component.new.graph c.cover_component.new.route c.cover_component.ensures.main c.cover_component.ensures.empty

pub returns-clause-few : goal.returns-clause-few
returns-clause-few c = few_at_end c.args.graph.now c.args.start.0 c.cover_component.new.graph c.cover_component.new.route c.cover_component.ensures.main c.cover_component.ensures.empty c.cover_component.ensures.few

pub returns-clause-burnt : goal.returns-clause-burnt
returns-clause-burnt c =
    burnt_where c.args.graph.now c.cover_component.new.graph c.cover_component.new.route.done c.edge_count.ensures.plane_graph.rotation
    (covered_burnt c.args.graph.now _ c.cover_component.new.graph c.cover_component.new.route c.cover_component.ensures.main c.cover_component.ensures.empty)

pub returns-clause-same : goal.returns-clause-same
returns-clause-same c =
    only_burnt c.args.graph.now c.cover_component.new.graph c.cover_component.new.route.done
    (covered_burnt c.args.graph.now _ c.cover_component.new.graph c.cover_component.new.route c.cover_component.ensures.main c.cover_component.ensures.empty)
