use Rattle.std.proofs.Common.{arith, ◌/◌}
use Rattle.std.proofs.lemmas.Bool.{iff_false}
use Rattle.nest_base.specs.declared.places.Edge.{Edge}
use Rattle.nest_base.specs.Range.{IsEdgeWithin, widest}
use Rattle.nest_base.proofs.ListReads.{All-read}
use Rattle.half_edges.proofs.Numbers.{length-half_edges}
use Rattle.plate_parts.specs.LeadIns.{TouchesAtMostAt}
use Rattle.lead_ins.proofs.Scans.{fails_at}
use Rattle.lead_ins.proofs.clear.is_blocked_nearby.Goals as goal

pub prove-unreachable-requires : goal.prove-unreachable-requires
prove-unreachable-requires c =
    omega (arith, c.loop.invariant, length-half_edges c.args.graph.now.edges, c.edge_count-edges.ensures.count, c.if-prove.true)

pub touches_at_most_at-requires-clause-a_within : goal.touches_at_most_at-requires-clause-a_within
touches_at_most_at-requires-clause-a_within c =
    (All-read (IsEdgeWithin widest) c.args.graph.now.edges (c.loop.s.0 / 2) c.edge_at-e.result c.edge_count-edges.ensures.plane_graph.within c.edge_at-e.ensures).low

pub touches_at_most_at-requires-clause-b_within : goal.touches_at_most_at-requires-clause-b_within
touches_at_most_at-requires-clause-b_within c =
    (All-read (IsEdgeWithin widest) c.args.graph.now.edges (c.loop.s.0 / 2) c.edge_at-e.result c.edge_count-edges.ensures.plane_graph.within c.edge_at-e.ensures).high

pub returns-then-not-touches_at_most_at : goal.returns-then-not-touches_at_most_at
returns-then-not-touches_at_most_at c = λ yes each.
    fails_at (λ (e : Edge). TouchesAtMostAt c.args.v c.args.q e.low e.high) c.args.graph.now.edges (c.loop.s.0 / 2) c.edge_at-e.result c.edge_at-e.ensures
    (iff_false c.touches_at_most_at.ensures c.if-not-touches_at_most_at.true) each
