use Rattle.std.proofs.Common.{arith, ◌≡◌, ◌+◌, ◌-◌, ◌*◌, true, drop, get_or, subst, sym, ap, ◌∙◌}
use Rattle.std.specs.Str.Parse.{digits_value_after}
use Rattle.std.proofs.lemmas.List.{drop_more}
use Rattle.micron_decimals.specs.Decimals.{are_digits}
use Rattle.ngc_meaning.proofs.SmallNumbers.{up_to_100, value_more}
use Rattle.ngc_meaning.proofs.number.value.Goals as goal

pub loop-digit-preserved : goal.loop-digit-preserved
loop-digit-preserved c =
    let i = c.loop-digit.digit-index in
    let ds = c.args.digits.now in
    let v = c.loop-digit.value in
    let next = drop_more ds i 0 c.loop-digit-test.true in
    let digits = subst (λ r. are_digits r ≡ true) next c.loop-digit.invariant.digits in
    let more = value_more v (get_or ds i 0) (drop (i + 1) ds) digits in
    let value : c.min-value.result ≡ up_to_100 (10 * v + (get_or ds i 0 - 48)) = omega arith in
    record {
      small = omega arith;
      digits = more.0;
      value = ap (λ m. up_to_100 (digits_value_after 10 m (drop (i + 1) ds))) value ∙ more.1 ∙ ap (λ r. up_to_100 (digits_value_after 10 v r)) (sym next) ∙ c.loop-digit.invariant.value;
    }
