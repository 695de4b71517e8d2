use Rattle.std.proofs.Common.{arith, refl}
use Rattle.std.proofs.lemmas.Option.{slice_get_past, slice_get_read}
use Rattle.replay_check.specs.declared.kinds.Kind.TheVariants.{Off}
use Rattle.replay_check.specs.Verdicts.{StraysOff}
use Rattle.replay_check.proofs.FirstOfKind.{off_tells, nowhere, first_at, move_there}
use Rattle.replay_check.proofs.first.first_off.Goals as goal

pub returns-in_err-i-clause-none : goal.returns-in_err-i-clause-none
returns-in_err-i-clause-none c = rw c.from_residual.ensures
    (λ edges zip. nowhere edges (StraysOff edges) Off c.args.moves.now c.args.kinds.now (off_tells edges) zip c.in_err-i.ensures.none)

pub returns-in_err-get-clause-none : goal.returns-in_err-get-clause-none
returns-in_err-get-clause-none c = rw c.from_residual-in_err-get.ensures
    (λ edges zip. absurd (move_there edges (StraysOff edges) Off c.args.moves.now c.args.kinds.now (off_tells edges) zip c.in_ok-i.i
    c.in_ok-i.ensures.found
    (slice_get_past c.args.moves.now c.in_ok-i.i (omega (arith, c.in_err-get.ensures.lookup)))))

pub returns-clause-found : goal.returns-clause-found
returns-clause-found c = λ edges zip.
    first_at edges (StraysOff edges) Off c.args.moves.now c.args.kinds.now (off_tells edges) zip c.in_ok-i.i c.in_ok-get.field-0.now
    c.in_ok-i.ensures.found c.in_ok-i.ensures.first
    (slice_get_read c.args.moves.now _ c.in_ok-i.i c.in_ok-get.field-0.now refl (omega (arith, c.in_ok-get.ensures.lookup)) c.in_ok-get.ensures.lookup.1)
