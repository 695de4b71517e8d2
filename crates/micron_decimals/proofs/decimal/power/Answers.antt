use Rattle.std.proofs.Common.{◌+◌, sym, ap, ◌∙◌}
use Rattle.std.specs.Option.{option_map}
use Rattle.std.proofs.lemmas.List.{take_rest}
use Rattle.micron_decimals.specs.Decimals.{signed_of}
use Rattle.micron_decimals.specs.Places.{clamped}
use Rattle.micron_decimals.proofs.Marks.{power_at, power_none}
use Rattle.micron_decimals.proofs.decimal.power.Goals as goal

pub returns-in-Some : goal.returns-in-Some
returns-in-Some c =
    let text = c.args.text.now in
    c.numeral.ensures ∙ ap (λ xs. option_map clamped (signed_of xs)) (take_rest text (c.in-Some.i + 1)) ∙ ap (λ o. option_map clamped o) (sym (power_at text c.in-Some.i (sym c.in-Some.ensures.place)))

pub returns-in-None : goal.returns-in-None
returns-in-None c = ap (λ o. option_map clamped o) (sym (power_none c.args.text.now (sym c.in-None.ensures.place)))
