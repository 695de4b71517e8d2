use Rattle.std.proofs.Common.{arith}
use Rattle.std.proofs.lemmas.Bool.{iff_false}
use Rattle.nest_base.specs.declared.places.Edge.{Edge}
use Rattle.nest_base.specs.Range.{IsEdgeWithin, widest}
use Rattle.nest_base.proofs.ListReads.{All-read}
use Rattle.plate_parts.specs.LeadIns.{TouchesAtMostAt}
use Rattle.lead_ins.proofs.Scans.{holds_of_more, holds_of_all, fails_at}
use Rattle.lead_ins.proofs.clear.is_off_edges.Goals as goal

pub touches_at_most_at-requires-clause-a_within : goal.touches_at_most_at-requires-clause-a_within
touches_at_most_at-requires-clause-a_within c =
    (All-read (IsEdgeWithin widest) c.args.graph.now.edges c.loop-k.k c.edge_at-e.result c.edge_count-k-end.ensures.plane_graph.within c.edge_at-e.ensures).low

pub touches_at_most_at-requires-clause-b_within : goal.touches_at_most_at-requires-clause-b_within
touches_at_most_at-requires-clause-b_within c =
    (All-read (IsEdgeWithin widest) c.args.graph.now.edges c.loop-k.k c.edge_at-e.result c.edge_count-k-end.ensures.plane_graph.within c.edge_at-e.ensures).high

pub returns-then-not-touches_at_most_at : goal.returns-then-not-touches_at_most_at
returns-then-not-touches_at_most_at c = (
  λ impossible. cc,
  λ each. absurd (fails_at (λ (e : Edge). TouchesAtMostAt c.args.v c.args.q e.low e.high) c.args.graph.now.edges c.loop-k.k c.edge_at-e.result c.edge_at-e.ensures
      (iff_false c.touches_at_most_at.ensures c.if-not-touches_at_most_at.true) each),
)

pub loop-k-preserved : goal.loop-k-preserved
loop-k-preserved c =
    holds_of_more (λ (e : Edge). TouchesAtMostAt c.args.v c.args.q e.low e.high) c.args.graph.now.edges c.loop-k.k c.edge_at-e.result c.edge_at-e.ensures
    (c.touches_at_most_at.ensures.0 c.if-not-touches_at_most_at.false) c.loop-k.invariant

pub returns : goal.returns
returns c = (
  λ yes. holds_of_all (λ (e : Edge). TouchesAtMostAt c.args.v c.args.q e.low e.high) c.args.graph.now.edges c.loop-k.k
      (omega (arith, c.edge_count-k-end.ensures.count, c.loop-k-test.false)) c.loop-k.invariant,
  λ each. cc,
)
