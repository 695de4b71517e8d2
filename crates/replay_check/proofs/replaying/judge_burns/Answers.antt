use Rattle.std.proofs.Common.{arith, ◌*◌, length}
use Rattle.std.proofs.lemmas.Result.{IfOk-weaker}
use Rattle.replay_check.specs.Leads.{LeadInsHold}
use Rattle.replay_check.proofs.Judging.{burns_within}
use Rattle.replay_check.proofs.Again.{first_again, once_is_never_again}
use Rattle.replay_check.proofs.Soundness.{hold_is_none_badly, are_lead_ins}
use Rattle.replay_check.proofs.replaying.judge_burns.Goals as goal

pub burn_each-requires-clause-within : goal.burn_each-requires-clause-within
burn_each-requires-clause-within c = burns_within c.args.graph.now.edges c.args.moves.now c.args.burns.now (2 * length c.deref_mut.result.now)
    (omega (arith, c.deref_mut.ensures.len, c.in_ok-is_burnt.ensures.len, c.edge_count.ensures.count)) c.requires.burns

pub returns-in-Some : goal.returns-in-Some
returns-in-Some c = λ places scrap. (c.requires.burn_edges, first_again c.edge_count.ensures.plane_graph c.args.moves.now c.args.burns.now c.in-Some.line c.requires.burns c.in-Some.ensures.again)

pub returns-in-Some-2 : goal.returns-in-Some-2
returns-in-Some-2 c = λ places scrap. (
  record {
    whole = c.requires.burn_edges;
    none_again = once_is_never_again c.edge_count.ensures.plane_graph c.args.moves.now c.args.burns.now c.requires.burns c.in_default.ensures.once;
  },
  rw c.in-Some-2.is at (c.in_ok-line.ensures.bad places scrap),
)

pub returns : goal.returns
returns c = IfOk-weaker c.judge_order.result _ _ (λ verdict judged places scrap.
    let hold : LeadInsHold c.args.graph.now.edges places c.args.moves.now = rw c.in_default-2.is at (c.in_ok-line.ensures.none places scrap) in
    judged places (record {
      once = record {
        whole = c.requires.burn_edges;
        none_again = once_is_never_again c.edge_count.ensures.plane_graph c.args.moves.now c.args.burns.now c.requires.burns c.in_default.ensures.once;
      };
      none_badly = hold_is_none_badly c.args.graph.now.edges places c.args.moves.now hold;
    }) (are_lead_ins c.args.graph.now.edges places c.args.moves.now c.args.kinds.now c.requires.kinds c.requires.burn_edges.none_off c.requires.burn_edges.none_along hold)) c.judge_order.ensures
