use Rattle.std.proofs.Common.{arith, ◌∷◌, ◌+◌, drop, sym, ap, ◌∙◌}
use Rattle.std.proofs.lemmas.Grind.{common_steps}
use Rattle.std.proofs.lemmas.List.{take_rest}
use Rattle.nest_base.specs.Lines.{lines_of}
use Rattle.ngc_meaning.proofs.FirstLines.{ended_line, last_line, nothing_left}
use Rattle.ngc_meaning.proofs.text.split_line.Goals as goal

pub returns-in-Some-clause-line : goal.returns-in-Some-clause-line
returns-in-Some-clause-line c =
    ended_line c.args.text.now c.in-Some.end (sym c.in-Some.ensures.place)
    ∙ ap (λ l. l ∷ lines_of (drop (c.in-Some.end + 1) c.args.text.now)) (sym c.without_return.ensures)
    ∙ ap (λ r. c.without_return.result.now ∷ lines_of r) (sym (take_rest c.args.text.now (c.in-Some.end + 1)))

pub returns-in-None-clause-line : goal.returns-in-None-clause-line
returns-in-None-clause-line c =
    last_line c.args.text.now (grind (arith, common_steps, c.if-is_empty.false, c.is_empty.ensures)) (sym c.in-None.ensures.place)
    ∙ ap (λ r. c.args.text.now ∷ lines_of r) (sym (nothing_left c.args.text.now))
