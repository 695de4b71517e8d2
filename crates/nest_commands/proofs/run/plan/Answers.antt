use Rattle.std.proofs.Common.{◌≡◌, ℕ, List, sym, subst, ◌∙◌}
use Rattle.cut_desk.specs.Outside.{IsPartlyPrinted, made_of}
use Rattle.nest_commands.specs.Outputs.{IsOutput}
use Rattle.nest_commands.proofs.PrintFaults.{went_well, failed, output_after_print_fault}
use Rattle.nest_commands.proofs.run.plan.Goals as goal

pub returns-then-is_err-2-clause-output : goal.returns-then-is_err-2-clause-output
returns-then-is_err-2-clause-output g c =
    let old = g.D.Desk.seen c.args.desk.now in
    let read = g.D.Desk.seen c.read_whole.new.desk in
    let written = g.D.Desk.seen c.write_whole.new.desk in
    let new = g.D.Desk.seen c.print_whole.new.desk in
    let output = c.args.output.now in
    let code = c.in-Ok-output_of.planned.code in
    let report = c.in-Ok-output_of.planned.report in
    let wrote : written.held output ≡ made_of (read.held output) c.as_slice.result.now =
    went_well (written.held output ≡ made_of (read.held output) c.as_slice.result.now) c.write_whole.result c.write_whole.ensures.ok (sym c.is_err.ensures.value ∙ c.if-is_err.false) in
    let printed : IsPartlyPrinted written.printed new.printed c.as_slice-2.result.now =
    failed (IsPartlyPrinted written.printed new.printed c.as_slice-2.result.now) c.print_whole.result c.print_whole.ensures.err (sym c.is_err-2.ensures.value ∙ c.if-is_err-2.true) in
    output_after_print_fault (old.held c.args.input.now) c.in-Ok.drawing.items output code report old read written new c.in-Ok.ensures.whole
    (subst (λ (b : List ℕ). IsOutput b code report) c.deref.ensures.value c.in-Ok-output_of.ensures.ok)
    c.read_whole.ensures.same
    (subst (λ (b : List ℕ). written.held output ≡ made_of (read.held output) b) c.as_slice.ensures wrote)
    c.write_whole.ensures.others c.print_whole.ensures.files
    (subst (λ (b : List ℕ). IsPartlyPrinted written.printed new.printed b) c.as_slice-2.ensures printed)
