use Rattle.replay_check.proofs.replaying.judge.Goals as goal

pub judge_burns-requires-clause-burn_edges : goal.judge_burns-requires-clause-burn_edges
judge_burns-requires-clause-burn_edges c = record {
  none_off = c.in_default.ensures.none c.args.graph.now.edges c.requires.kinds;
  none_along = c.in_default-first_along.ensures.none c.args.graph.now.edges c.requires.kinds;
}
