use Rattle.std.proofs.Common.{arith, ◌∙◌, sym, subst}
use Rattle.cut_desk.specs.Outside.{IsPartlyPrinted}
use Rattle.nest_commands.specs.Replays.{IsReplayDecided, IsDrawingDecided, ReplayOutputIs}
use Rattle.nest_commands.specs.declared.status.Status.TheVariants.{PrintFault, Unsound}
use Rattle.nest_commands.proofs.PrintFaults.{failed}
use Rattle.nest_commands.proofs.JudgedRuns.{where_told, where_both_told, accepted_of, told_before, decided_unsound, output_after_print_fault, judged_of}
use Rattle.nest_commands.proofs.replay.replay.Goals as goal

pub returns-in_default-clause-decided : goal.returns-in_default-clause-decided
returns-in_default-clause-decided g c =
    let old = g.D.Desk.seen c.args.desk.now in
    let read = g.D.Desk.seen c.read_whole.new.desk in
    where_both_told (old.held c.args.input.now) (old.held c.args.code.now) c.in-Ok.drawing.items c.in-Ok-read_whole.code.items (IsReplayDecided (Unsound c.in-Ok-verdict_of.verdict))
    c.in-Ok.ensures.whole (told_before c.args.code.now c.in-Ok-read_whole.code.items old read c.in-Ok.ensures.same c.in-Ok-read_whole.ensures.whole)
    (decided_unsound c.in-Ok.drawing.items c.in-Ok-read_whole.code.items c.in-Ok-verdict_of.verdict
    (omega (arith, c.in-Ok.ensures.short, c.in-Ok.drawing.ok.0)) (omega (arith, c.in-Ok-read_whole.ensures.short, c.in-Ok-read_whole.code.ok.0))
    (judged_of c.deref.result.now c.in-Ok.drawing.items c.deref-2.result.now c.in-Ok-read_whole.code.items c.in-Ok-verdict_of.verdict c.deref.ensures.value c.deref-2.ensures.value c.in-Ok-verdict_of.ensures.judged)
    c.in_default.not-Sound)

pub returns-in_default-clause-drawing : goal.returns-in_default-clause-drawing
returns-in_default-clause-drawing g c = where_told ((g.D.Desk.seen c.args.desk.now).held c.args.input.now) c.in-Ok.drawing.items (IsDrawingDecided (Unsound c.in-Ok-verdict_of.verdict)) c.in-Ok.ensures.whole (
  omega (arith, c.in-Ok.ensures.short, c.in-Ok.drawing.ok.0),
  accepted_of c.in-Ok.drawing.items c.in-Ok-read_whole.code.items c.in-Ok-verdict_of.verdict
      (judged_of c.deref.result.now c.in-Ok.drawing.items c.deref-2.result.now c.in-Ok-read_whole.code.items c.in-Ok-verdict_of.verdict c.deref.ensures.value c.deref-2.ensures.value c.in-Ok-verdict_of.ensures.judged),
)

pub returns-then-is_err-clause-output : goal.returns-then-is_err-clause-output
returns-then-is_err-clause-output g c =
    let old = g.D.Desk.seen c.args.desk.now in
    let read = g.D.Desk.seen c.read_whole.new.desk in
    let again = g.D.Desk.seen c.read_whole-2.new.desk in
    let new = g.D.Desk.seen c.print_whole.new.desk in
    let printed : IsPartlyPrinted again.printed new.printed c.as_slice.result.now =
    failed (IsPartlyPrinted again.printed new.printed c.as_slice.result.now) c.print_whole.result c.print_whole.ensures.err (sym c.is_err.ensures.value ∙ c.if-is_err.true) in
    where_both_told (old.held c.args.input.now) (old.held c.args.code.now) c.in-Ok.drawing.items c.in-Ok-read_whole.code.items (λ file code. ReplayOutputIs PrintFault file code old new)
    c.in-Ok.ensures.whole (told_before c.args.code.now c.in-Ok-read_whole.code.items old read c.in-Ok.ensures.same c.in-Ok-read_whole.ensures.whole)
    (output_after_print_fault c.in-Ok.drawing.items c.in-Ok-read_whole.code.items c.in-Sound.pierces old read again new
    (rw c.in-Sound.is at (judged_of c.deref.result.now c.in-Ok.drawing.items c.deref-2.result.now c.in-Ok-read_whole.code.items c.in-Ok-verdict_of.verdict c.deref.ensures.value c.deref-2.ensures.value c.in-Ok-verdict_of.ensures.judged))
    c.in-Ok.ensures.same c.in-Ok-read_whole.ensures.same
    (subst (λ b. IsPartlyPrinted again.printed new.printed b) (c.as_slice.ensures ∙ c.sound_line-line.ensures) printed))
