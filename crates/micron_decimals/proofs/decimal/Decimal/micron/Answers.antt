use Rattle.std.proofs.Common.{ap, subst, rules, FitsSigned, ◌∙◌}
use Rattle.std.specs.Int.{w128}
use Rattle.std.proofs.lemmas.Int.{to_z-of_z}
use Rattle.micron_decimals.specs.Decimals.{Decimal, signed}
use Rattle.micron_decimals.specs.Places.{IsReadable}
use Rattle.micron_decimals.proofs.Exponents.{micron_is}
use Rattle.micron_decimals.proofs.decimal.Decimal.micron.Goals as goal

pub returns : goal.returns
returns c = λ d e.
    let p = c.args.self.now in
    let fits : FitsSigned w128 c.signed.result = search rules in
    to_z-of_z w128 c.signed.result fits ∙ c.signed.ensures ∙ ap (λ (q : Decimal). signed q.negative c.micron_size.result) c.self.view_is ∙ ap (λ n. signed p.negative n) c.micron_size.ensures
    ∙ micron_is d p (subst IsReadable c.self.view_is c.self.invariant) e
