-- What the run of the words is, is that of the arguments.
use Rattle.std.proofs.Common.{inl, inr, ◌∙◌, refl, subst}
use Rattle.std.specs.Prelude.{map, string_bytes}
use Rattle.std.specs.Process.{exit_status}
use Rattle.nest_commands.specs.Runs.{RunsAs, EndsAs}
use Rattle.nest_commands.specs.declared.status.Status.TheVariants.{Memory}
use Rattle.nest_commands.proofs.Results.{if_ok_map, if_ok, if_err}
use Rattle.nest_commands.proofs.process.run_process.Goals as goal

pub returns-in-Ok-clause-ends : goal.returns-in-Ok-clause-ends
returns-in-Ok-clause-ends g c =
    let old = g.D.Desk.seen c.args.desk.now in
    let new = g.D.Desk.seen c.run.new.desk in
    let given = map string_bytes c.deref.result.now in
    let runs : RunsAs given c.run.result old new = record {
      words_told = c.run.ensures.words;
      decided = c.run.ensures.decided;
      absent = c.run.ensures.absent;
      cause = c.run.ensures.cause;
      complete = c.run.ensures.complete;
      refusal = c.run.ensures.refusal;
      headline = c.run.ensures.headline;
      even = c.run.ensures.even;
      output = c.run.ensures.output;
      files = c.run.ensures.files;
      replay_decided = c.run.ensures.replay_decided;
      replay_drawing = c.run.ensures.replay_drawing;
      replay_absent = c.run.ensures.replay_absent;
      replay_no_code = c.run.ensures.replay_no_code;
      replay_cause = c.run.ensures.replay_cause;
      replay_complete = c.run.ensures.replay_complete;
      replay_sound = c.run.ensures.replay_sound;
      replay_unsound = c.run.ensures.replay_unsound;
      replay_output = c.run.ensures.replay_output;
      replay_files = c.run.ensures.replay_files;
      no_files = c.run.ensures.no_files;
      line = c.run.ensures.line;
    } in
    let ran : EndsAs given (exit_status c.from.result) old new = (c.run.result, c.from.ensures ∙ c.code.ensures, inl runs) in
    if_ok_map c.args.args c.in-Ok.ensures.all
    (λ args same. subst (λ ws. EndsAs (map string_bytes ws) (exit_status c.from.result) old new) (c.deref.ensures.value ∙ same) ran)

pub returns-in-Err-clause-ends : goal.returns-in-Err-clause-ends
returns-in-Err-clause-ends g c = if_ok c.args.args (λ args. (Memory, c.from-in-Err.ensures ∙ c.code-in-Err.ensures, inr (refl, refl)))

pub returns-in-Err-clause-no_text : goal.returns-in-Err-clause-no_text
returns-in-Err-clause-no_text g c = if_err c.args.args (λ e. (Memory, c.from-in-Err.ensures ∙ c.code-in-Err.ensures, inr (refl, refl)))
