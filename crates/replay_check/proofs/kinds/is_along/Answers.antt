use Rattle.std.proofs.Common.{arith}
use Rattle.std.proofs.lemmas.Bool.{both_ways}
use Rattle.nest_base.specs.declared.places.Edge.{Edge}
use Rattle.nest_base.specs.Order.{IsBefore}
use Rattle.nest_base.specs.Range.{IsEdgeWithin, widest}
use Rattle.nest_base.proofs.ListReads.{All-read, Contains-from_read}
use Rattle.lead_ins.proofs.Scans.{holds_of_more, holds_of_all}
use Rattle.replay_check.specs.Kinds.{ShareMorePoints}
use Rattle.replay_check.proofs.kinds.is_along.Goals as goal

pub shares_more-requires-clause-ends_in_order : goal.shares_more-requires-clause-ends_in_order
shares_more-requires-clause-ends_in_order c =
    All-read (λ (e : Edge). IsBefore e.low e.high) c.args.graph.now.edges c.loop-k.k c.edge_at-e.result
    c.edge_count-k-end.ensures.plane_graph.ends_in_order c.edge_at-e.ensures

pub shares_more-requires-clause-e_within : goal.shares_more-requires-clause-e_within
shares_more-requires-clause-e_within c =
    All-read (IsEdgeWithin widest) c.args.graph.now.edges c.loop-k.k c.edge_at-e.result c.edge_count-k-end.ensures.plane_graph.within c.edge_at-e.ensures

pub returns-then-shares_more-clause-along : goal.returns-then-shares_more-clause-along
returns-then-shares_more-clause-along c = λ yes. (
  c.edge_at-e.result,
  Contains-from_read c.args.graph.now.edges c.loop-k.k c.edge_at-e.result c.edge_at-e.ensures,
  c.shares_more.ensures.shared c.if-shares_more.true,
)

pub loop-k-preserved : goal.loop-k-preserved
loop-k-preserved c =
    holds_of_more (λ (e : Edge). ShareMorePoints c.args.a c.args.b e.low e.high → ⊥) c.args.graph.now.edges c.loop-k.k c.edge_at-e.result
    c.edge_at-e.ensures (λ shares. both_ways c.shares_more.result c.if-shares_more.false (c.shares_more.ensures.not_shared shares)) c.loop-k.invariant

pub returns-clause-not_along : goal.returns-clause-not_along
returns-clause-not_along c = λ e stands shares. absurd
    (holds_of_all (λ (f : Edge). ShareMorePoints c.args.a c.args.b f.low f.high → ⊥) c.args.graph.now.edges c.loop-k.k
    (omega (arith, c.edge_count-k-end.ensures.count, c.loop-k-test.false)) c.loop-k.invariant e stands shares)
