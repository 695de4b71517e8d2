use Rattle.std.proofs.Common.{Some, rules, FitsSigned, ap, ◌∙◌}
use Rattle.std.specs.Int.{w128}
use Rattle.std.proofs.lemmas.Int.{to_z-of_z}
use Rattle.micron_decimals.specs.Decimals.{decimal_of, nearest_micron}
use Rattle.micron_decimals.specs.Places.{clamped}
use Rattle.micron_decimals.proofs.Readings.{read_gives, clamped_nearest}
use Rattle.micron_decimals.proofs.read.micron.Goals as goal

pub returns : goal.returns
returns c =
    let fits : FitsSigned w128 c.micron.result = search rules in
    ap (λ z. Some z) (to_z-of_z w128 c.micron.result fits)
    ∙ read_gives (λ d. clamped (nearest_micron d)) (decimal_of c.args.text.now) c.in_ok-decimal.decimal c.micron.result c.in_ok-decimal.ensures c.micron.ensures
    ∙ clamped_nearest (decimal_of c.args.text.now)
