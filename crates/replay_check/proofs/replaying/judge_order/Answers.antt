use Rattle.std.proofs.Common.{length}
use Rattle.half_edges.specs.Numbers.{half_edges_of}
use Rattle.half_edges.proofs.Numbers.{length-half_edges}
use Rattle.replay_check.proofs.Judging.{burns_within, cut_is_detached, growing_is_sound}
use Rattle.replay_check.proofs.MissedEdges.{least_is_missed, none_missed}
use Rattle.replay_check.proofs.replaying.judge_order.Goals as goal

pub returns-in-Some : goal.returns-in-Some
returns-in-Some c = λ places behind leads. (
  behind,
  least_is_missed c.requires.plane_graph c.args.moves.now c.args.burns.now c.args.is_burnt.now c.requires.burns c.requires.flags
      c.requires.each_flag _ c.in-Some.ensures.least,
)

pub last_cut-requires-clause-within : goal.last_cut-requires-clause-within
last_cut-requires-clause-within c = burns_within c.args.graph.now.edges c.args.moves.now c.args.burns.now (length (half_edges_of c.args.graph.now.edges))
    (length-half_edges c.args.graph.now.edges) c.requires.burns

pub returns-in-Some-2 : goal.returns-in-Some-2
returns-in-Some-2 c = λ places behind leads. (
  record {
    behind_lead_ins = behind;
    none_missed = none_missed c.requires.plane_graph c.args.moves.now c.args.burns.now c.args.is_burnt.now c.requires.burns c.requires.flags c.requires.each_flag c.in_default.ensures.none;
  },
  cut_is_detached c.requires.plane_graph c.args.faces.now.faces c.requires.faces c.args.moves.now c.args.burns.now c.args.is_burnt.now c.requires.burns c.requires.flags
      c.requires.each_flag c.in_default.ensures.none c.in-Some-2.line (rw c.in-Some-2.is at c.in_ok-line.ensures.cut),
)

pub returns : goal.returns
returns c = λ places behind leads. (
  growing_is_sound c.requires.plane_graph c.args.faces.now.faces c.requires.faces c.args.moves.now c.args.burns.now c.args.is_burnt.now c.requires.burns
      c.requires.flags c.requires.each_flag c.in_default.ensures.none places leads behind.once.none_again (rw c.in_default-2.is at c.in_ok-line.ensures.none),
  c.pierces.ensures,
)
