use Rattle.std.proofs.Common.{◌≡◌, true, drop, sym, ap, ◌∙◌}
use Rattle.std.specs.List.{list_all}
use Rattle.micron_decimals.specs.Places.{is_zero}
use Rattle.micron_decimals.proofs.Cuts.{zeros_by_parts}
use Rattle.micron_decimals.proofs.decimal.Decimal.ends_before.Goals as goal

pub returns : goal.returns
returns c =
    let whole = c.self.inside.whole.now in
    let zeros : list_all is_zero (drop c.args.place whole) ≡ true = ap (λ ds. list_all is_zero ds) (sym c.cut.ensures.behind) ∙ sym c.if-not-are_zeros.ensures in
    rw (← c.self.view_is) (let parts = zeros_by_parts c.args.place whole c.self.inside.part.now zeros in cc)
