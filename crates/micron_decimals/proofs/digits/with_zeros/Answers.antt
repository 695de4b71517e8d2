use Rattle.std.proofs.Common.{arith, ◌≡◌, ◌*◌, ◌^◌, min, ap, ◌∙◌}
use Rattle.micron_decimals.specs.Places.{capped}
use Rattle.micron_decimals.proofs.Capped.{zeros_more, zeros_up_to}
use Rattle.micron_decimals.proofs.digits.with_zeros.Goals as goal

pub loop-done-preserved : goal.loop-done-preserved
loop-done-preserved c = record {
  small = omega arith;
  value = c.min-value.ensures ∙ ap (λ v. capped (10 * v)) c.loop-done.invariant.value ∙ zeros_more c.args.number c.loop-done.done;
}

pub returns : goal.returns
returns c =
    let all_done : c.loop-done.done ≡ min c.args.zeros 20 = omega arith in
    c.loop-done.invariant.value ∙ ap (λ k. capped (c.args.number * 10 ^ k)) all_done ∙ zeros_up_to c.args.number c.args.zeros
