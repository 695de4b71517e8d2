use Rattle.std.proofs.Common.{sym}
use Rattle.nest_commands.proofs.Completeness.{complete}
use Rattle.nest_commands.proofs.JudgedRuns.{complete as complete_replay, found_unsound}
use Rattle.nest_commands.proofs.KeptPromises.{keeps_fewest_where_even}
use Rattle.nest_commands.proofs.run.run.Goals as goal

pub returns-then-not-matches-clause-complete : goal.returns-then-not-matches-clause-complete
returns-then-not-matches-clause-complete g c =
    let is_plan = rw c.in-Some.is at c.plan_words.ensures.files in
    rw (sym is_plan) (λ none. complete c.plan-status.result c.in-Some.files.input.now c.in-Some.files.output.now
    (g.D.Desk.seen c.args.desk.now) (g.D.Desk.seen c.plan-status.new.desk) (g.D.Desk.seen c.print_fault_line.new.desk)
    ((g.D.Desk.seen c.args.desk.now).held c.in-Some.files.input.now)
    c.plan-status.ensures.words c.plan-status.ensures.decided c.plan-status.ensures.cause c.print_fault_line.ensures.later none)

pub returns-else-not-matches-clause-even : goal.returns-else-not-matches-clause-even
returns-else-not-matches-clause-even g c =
    let is_plan = rw c.in-Some.is at c.plan_words.ensures.files in
    rw (sym is_plan) (λ done. keeps_fewest_where_even c.plan-status.result c.in-Some.files.output.now (g.D.Desk.seen c.args.desk.now) (g.D.Desk.seen c.plan-status.new.desk)
    ((g.D.Desk.seen c.args.desk.now).held c.in-Some.files.input.now) c.plan-status.ensures.output done)

pub returns-then-not-matches-2-clause-replay_complete : goal.returns-then-not-matches-2-clause-replay_complete
returns-then-not-matches-2-clause-replay_complete g c =
    let is_replay = rw c.in-Some-replay_words.is at c.replay_words.ensures in
    rw (sym is_replay) (λ none. complete_replay c.replay-status.result c.in-Some-replay_words.files.input.now c.in-Some-replay_words.files.code.now
    (g.D.Desk.seen c.args.desk.now) (g.D.Desk.seen c.replay-status.new.desk) (g.D.Desk.seen c.print_fault_line-then-not-matches-2.new.desk)
    ((g.D.Desk.seen c.args.desk.now).held c.in-Some-replay_words.files.input.now) ((g.D.Desk.seen c.args.desk.now).held c.in-Some-replay_words.files.code.now)
    c.replay-status.ensures.words c.replay-status.ensures.decided c.replay-status.ensures.cause c.print_fault_line-then-not-matches-2.ensures.later none)

pub returns-then-not-matches-2-clause-replay_unsound : goal.returns-then-not-matches-2-clause-replay_unsound
returns-then-not-matches-2-clause-replay_unsound g c =
    let is_replay = rw c.in-Some-replay_words.is at c.replay_words.ensures in
    rw (sym is_replay) (λ verdict is. found_unsound c.replay-status.result
    ((g.D.Desk.seen c.args.desk.now).held c.in-Some-replay_words.files.input.now) ((g.D.Desk.seen c.args.desk.now).held c.in-Some-replay_words.files.code.now)
    c.replay-status.ensures.decided verdict is)
