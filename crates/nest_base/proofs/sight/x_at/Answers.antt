use Rattle.std.proofs.Common.{arith, ◌≡◌, ◌-ℤ◌, FitsSigned, to_z, of_z, ◌+ℤ◌}
use Rattle.std.specs.Int.{w64, w128}
use Rattle.std.proofs.lemmas.Int.{ints}
use Rattle.nest_base.proofs.Bounds.{fits-add, add_exact}
use Rattle.nest_base.proofs.sight.x_at.Goals as goal

pub overflow_add-result : goal.overflow_add-result
overflow_add-result c =
    let fits : FitsSigned w128 (c.product.result +ℤ c.product-2.result) = fits-add c.product.result c.product-2.result c.product.ensures.small c.product-2.ensures.small in
    omega (arith, ints)

pub returns-clause-value : goal.returns-clause-value
returns-clause-value c =
    let tx : to_z w64 (of_z w64 c.args.d.now.to.x) ≡ c.args.d.now.to.x = omega (arith, ints) in
    let fell : to_z w64 (of_z w64 c.fall.result) ≡ c.args.d.now.from.y -ℤ c.args.d.now.to.y = omega (arith, ints) in
    let drifted : to_z w64 (of_z w64 c.drift.result) ≡ c.args.d.now.from.x -ℤ c.args.d.now.to.x = omega (arith, ints) in
    let up : to_z w64 (of_z w64 c.difference.result) ≡ c.args.p.y -ℤ c.args.d.now.to.y = omega (arith, ints) in
    let low = rw (tx, fell) at c.product.ensures.value in
    let more = rw (drifted, up) at c.product-2.ensures.value in
    rw (add_exact c.product.result c.product-2.result c.product.ensures.small c.product-2.ensures.small, low, more)
