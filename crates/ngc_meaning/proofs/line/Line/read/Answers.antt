use Rattle.std.proofs.Common.{Some, None, sym, ap, ◌∙◌}
use Rattle.ngc_meaning.specs.Contents.{is_mark_alone}
use Rattle.ngc_meaning.proofs.LineContents.{worded}
use Rattle.ngc_meaning.proofs.line.Line.read.Goals as goal

pub returns-in_err-block : goal.returns-in_err-block
returns-in_err-block c =
    rw c.from_residual-in_err-block.ensures
    (worded c.args.line.now c.as_slice-2.result.now None c.if-line-gt-LONGEST.false
    (sym c.in_ok-text.ensures ∙ ap Some (sym c.as_slice-2.ensures.value))
    (ap is_mark_alone (c.as_slice-2.ensures.value ∙ sym c.as_slice.ensures.value) ∙ sym c.is_mark.ensures ∙ c.if-is_mark.false)
    c.in_err-block.ensures)
