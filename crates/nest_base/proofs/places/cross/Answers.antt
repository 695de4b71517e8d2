use Rattle.std.proofs.Common.{arith, ◌≡◌, ◌-ℤ◌, FitsSigned, to_z, of_z}
use Rattle.std.specs.Int.{w64, w128}
use Rattle.std.proofs.lemmas.Int.{ints}
use Rattle.nest_base.proofs.Bounds.{fits-sub, sub_exact}
use Rattle.nest_base.proofs.places.cross.Goals as goal

pub overflow_sub-result : goal.overflow_sub-result
overflow_sub-result c =
    let fits : FitsSigned w128 (c.product-left.result -ℤ c.product-right.result) = fits-sub c.product-left.result c.product-right.result c.product-left.ensures.small c.product-right.ensures.small in
    omega (arith, ints)

pub returns : goal.returns
returns c =
    let ax : to_z w64 (of_z w64 c.difference.result) ≡ c.args.a.x -ℤ c.args.o.x = omega (arith, ints) in
    let by : to_z w64 (of_z w64 c.difference-2.result) ≡ c.args.b.y -ℤ c.args.o.y = omega (arith, ints) in
    let ay : to_z w64 (of_z w64 c.difference-3.result) ≡ c.args.a.y -ℤ c.args.o.y = omega (arith, ints) in
    let bx : to_z w64 (of_z w64 c.difference-4.result) ≡ c.args.b.x -ℤ c.args.o.x = omega (arith, ints) in
    let left = rw (ax, by) at c.product-left.ensures.value in
    let right = rw (ay, bx) at c.product-right.ensures.value in
    rw (sub_exact c.product-left.result c.product-right.result c.product-left.ensures.small c.product-right.ensures.small, left, right)
