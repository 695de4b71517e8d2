use Rattle.std.proofs.Common.{true, false, sym, ap, ◌∙◌}
use Rattle.ngc_meaning.specs.Machines.{moved, closed}
use Rattle.ngc_meaning.proofs.StepsOfWords.{bad_line, unknown_word, too_far, no_fault, lawful_by, known_by, not_within, within, refused_step, taken_step}
use Rattle.ngc_meaning.proofs.machine.Machine.step_words.Goals as goal

pub returns-then-not-is_lawful-clause-step : goal.returns-then-not-is_lawful-clause-step
returns-then-not-is_lawful-clause-step c = λ earlier ws at of.
    refused_step earlier _ c.args.self.now _ c.refused.result c.refused.ensures
    (bad_line earlier ws (sym (lawful_by earlier ws c.args.self.now c.args.block.now at of) ∙ sym c.is_lawful.ensures ∙ c.if-not-is_lawful.true))

pub returns-then-block-clause-step : goal.returns-then-block-clause-step
returns-then-block-clause-step c = λ earlier ws at of.
    refused_step earlier _ c.args.self.now _ c.refused-then-block.result c.refused-then-block.ensures
    (unknown_word earlier ws (sym (lawful_by earlier ws c.args.self.now c.args.block.now at of) ∙ sym c.is_lawful.ensures ∙ c.if-not-is_lawful.false) (known_by ws c.args.block.now true of c.if-block.true))

pub returns-in_default-clause-step : goal.returns-in_default-clause-step
returns-in_default-clause-step c = λ earlier ws at of.
    refused_step earlier _ c.args.self.now _ c.refused-in_default.result c.refused-in_default.ensures
    (too_far earlier ws (sym (lawful_by earlier ws c.args.self.now c.args.block.now at of) ∙ sym c.is_lawful.ensures ∙ c.if-not-is_lawful.false) (known_by ws c.args.block.now false of c.if-block.false)
    (not_within earlier ws c.args.self.now c.args.block.now at of (sym c.in_default.ensures.value)))

pub returns-clause-step : goal.returns-clause-step
returns-clause-step c = λ earlier ws at of.
    let led = within earlier ws c.args.self.now c.args.block.now c.in-Some.place at of (sym c.in-Some.ensures.value) c.in-Some.ensures.near in
    taken_step earlier ws c.args.self.now c.advance.new.self c.args.block.now c.in-Some.place c.advance.result at of
    (no_fault earlier ws (sym (lawful_by earlier ws c.args.self.now c.args.block.now at of) ∙ sym c.is_lawful.ensures ∙ c.if-not-is_lawful.false) (known_by ws c.args.block.now false of c.if-block.false) led.0)
    led.1 (c.advance.ensures.next ∙ c.behind_words-next.ensures)
    (c.advance.ensures.made ∙ ap (λ n. moved c.args.self.now n) (sym c.advance.ensures.next))
    (c.advance.ensures.closing ∙ ap (λ n. closed c.args.self.now n c.args.block.now.ending) (sym c.advance.ensures.next))
    c.advance.ensures.ended c.advance.ensures.fault
