use Rattle.micron_decimals.proofs.Cuts.{front_by_parts, are_digits-take, both_are_digits}
use Rattle.micron_decimals.proofs.decimal.Decimal.front.Goals as goal

pub number-requires-clause-digits : goal.number-requires-clause-digits
number-requires-clause-digits c =
    let both = both_are_digits c.self.inside.whole.now c.self.inside.part.now c.self.invariant.digits in
    rw c.cut.ensures.front (are_digits-take c.args.place c.self.inside.whole.now both.0)

pub number-requires-2-clause-digits : goal.number-requires-2-clause-digits
number-requires-2-clause-digits c =
    let both = both_are_digits c.self.inside.whole.now c.self.inside.part.now c.self.invariant.digits in
    rw c.cut-2.ensures.front (are_digits-take c.saturating_sub-behind.result c.self.inside.part.now both.1)

pub returns : goal.returns
returns c = rw (← c.self.view_is) (let parts = front_by_parts c.args.place c.self.inside.whole.now c.self.inside.part.now in cc)
