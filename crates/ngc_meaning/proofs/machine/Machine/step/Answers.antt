use Rattle.std.proofs.Common.{[], sym, ap, subst, ◌∙◌, ◌∷◌}
use Rattle.std.specs.Prelude.{unwrap_or}
use Rattle.code_moves.specs.Words.{Words, content_of}
use Rattle.ngc_meaning.specs.Machines.{MachineAt, IsTaken}
use Rattle.ngc_meaning.proofs.StepsOfWords.{unread}
use Rattle.ngc_meaning.proofs.machine.Machine.step.Goals as goal

pub returns-in-None-clause-fault : goal.returns-in-None-clause-fault
returns-in-None-clause-fault c = λ earlier at. ap (λ s. s.fault) c.refused.ensures ∙ sym (unread earlier (content_of c.args.line.now) c.in-None.ensures)

pub returns-in-Some-Words-clause-taken : goal.returns-in-Some-Words-clause-taken
returns-in-Some-Words-clause-taken c = λ earlier at none.
    let read = rw c.in-Some-Words.field-0-is at c.in-Some-Words.ensures in
    subst (λ o. IsTaken earlier (unwrap_or o (Words [])) c.step_words.result) (sym read.1) ((c.step_words.ensures.step earlier read.0 at read.2).taken none)

pub returns-in-Some-Words-clause-next : goal.returns-in-Some-Words-clause-next
returns-in-Some-Words-clause-next c = λ earlier at none.
    let read = rw c.in-Some-Words.field-0-is at c.in-Some-Words.ensures in
    subst (λ o. MachineAt (unwrap_or o (Words []) ∷ earlier) c.step_words.new.self) (sym read.1) ((c.step_words.ensures.step earlier read.0 at read.2).next none)
