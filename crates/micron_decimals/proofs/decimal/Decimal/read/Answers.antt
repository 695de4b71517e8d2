use Rattle.std.proofs.Common.{rules, FitsSigned, ap, ◌∙◌}
use Rattle.std.specs.Int.{w128}
use Rattle.std.specs.List.{before_first}
use Rattle.std.specs.Option.{option_map}
use Rattle.std.proofs.lemmas.Int.{to_z-of_z}
use Rattle.nest_base.specs.Lines.{trimmed}
use Rattle.micron_decimals.specs.Decimals.{is_exponent_mark, plain_of, power_of, with_power}
use Rattle.micron_decimals.specs.Places.{clamped}
use Rattle.micron_decimals.proofs.Readings.{read_with_power}
use Rattle.micron_decimals.proofs.decimal.Decimal.read.Goals as goal

pub returns : goal.returns
returns c =
    let text = c.args.text.now in
    let power = c.in_ok-power.power in
    let fits : FitsSigned w128 power = search rules in
    c.plain.ensures ∙ ap (λ z. with_power (plain_of c.before_mark.result.now) z) (to_z-of_z w128 power fits)
    ∙ ap (λ ds. with_power (plain_of ds) power) (c.before_mark.ensures ∙ ap (λ t. before_first is_exponent_mark t) c.trimmed-text.ensures)
    ∙ read_with_power (plain_of (before_first is_exponent_mark (trimmed text))) (power_of (trimmed text)) power (c.in_ok-power.ensures ∙ ap (λ t. option_map clamped (power_of t)) c.trimmed-text.ensures)
