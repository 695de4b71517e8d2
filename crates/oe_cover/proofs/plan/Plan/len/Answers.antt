-- There are as many pieces as ends.
use Rattle.std.proofs.Common.{arith, ◌≡◌, length, sym, ap, ◌∙◌}
use Rattle.nest_base.specs.NumberLists.{side_numbers}
use Rattle.oe_cover.proofs.Pieces.{length-pieces}
use Rattle.oe_cover.proofs.plan.Plan.len.Goals as goal

pub returns : goal.returns
returns c =
    let ends = c.self.inside.ends.items in
    let long : length ends ≡ length c.args.self.now = sym (length-pieces (side_numbers c.self.inside.sides.items) 0 ends) ∙ ap length c.self.view_is in
    omega (arith, c.len.ensures)
