use Rattle.std.proofs.Common.{arith, ◌^◌, ◌<◌, ◌≡◌, ℤ, ◌+ℤ◌, ◌-ℤ◌, ◌*ℤ◌, FitsSigned, to_z, of_z}
use Rattle.std.specs.Prelude.{unsigned_abs}
use Rattle.std.specs.Int.{w64, w128}
use Rattle.std.proofs.lemmas.Int.{ints}
use Rattle.nest_base.proofs.Bounds.{fits-add, add_exact, between_abs}
use Rattle.start_policy.proofs.choosers.distance_squared.Goals as goal

small : (z : ℤ) → unsigned_abs z < 2 ^ 65 → unsigned_abs z < 2 ^ 66
small z below = omega (arith, below)

pub overflow_add-result : goal.overflow_add-result
overflow_add-result c =
    let left = small c.squared_span.result c.squared_span.ensures.small in
    let right = small c.squared_span-2.result c.squared_span-2.ensures.small in
    let fits : FitsSigned w128 (c.squared_span.result +ℤ c.squared_span-2.result) = fits-add c.squared_span.result c.squared_span-2.result left right in
    omega (arith, ints)

pub returns : goal.returns
returns c =
    let left = small c.squared_span.result c.squared_span.ensures.small in
    let right = small c.squared_span-2.result c.squared_span-2.ensures.small in
    let px : to_z w64 (of_z w64 c.args.p.x) ≡ c.args.p.x = omega (arith, ints) in
    let qx : to_z w64 (of_z w64 c.args.q.x) ≡ c.args.q.x = omega (arith, ints) in
    let py : to_z w64 (of_z w64 c.args.p.y) ≡ c.args.p.y = omega (arith, ints) in
    let qy : to_z w64 (of_z w64 c.args.q.y) ≡ c.args.q.y = omega (arith, ints) in
    rw (add_exact c.squared_span.result c.squared_span-2.result left right, rw (px, qx) at c.squared_span.ensures.value, rw (py, qy) at c.squared_span-2.ensures.value)
