use Rattle.std.proofs.Common.{arith, rules, ◌≡◌, ◌*ℤ◌, to_z, of_z, ◌∙◌}
use Rattle.std.specs.Int.{w128}
use Rattle.std.proofs.lemmas.Int.{ints}
use Rattle.nest_base.proofs.Bounds.{mul_exact}
use Rattle.nest_base.proofs.Rankings.{int_cmp-sub}
use Rattle.nest_base.proofs.turn.side_order.Goals as goal

pub returns : goal.returns
returns c =
    let a = c.args.a in
    let b = c.args.b in
    let ax : to_z w128 (of_z w128 c.from-3.result) ≡ a.x = omega (arith, ints) in
    let ay : to_z w128 (of_z w128 c.from.result) ≡ a.y = omega (arith, ints) in
    let bx : to_z w128 (of_z w128 c.from-2.result) ≡ b.x = omega (arith, ints) in
    let by : to_z w128 (of_z w128 c.from-4.result) ≡ b.y = omega (arith, ints) in
    let compared = rw (ay, bx, ax, by, mul_exact a.y b.x (search rules) (search rules), mul_exact a.x b.y (search rules) (search rules)) at c.cmp.ensures in
    compared ∙ int_cmp-sub (a.x *ℤ b.y) (a.y *ℤ b.x)
