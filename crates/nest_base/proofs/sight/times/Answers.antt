use Rattle.std.proofs.Common.{arith, ◌≡◌, ◌*ℤ◌, FitsSigned, to_z, of_z, lit<, ◌^◌}
use Rattle.std.specs.Int.{w128}
use Rattle.std.proofs.lemmas.Int.{to_z-of_z, ints, fits_signed_mul}
use Rattle.nest_base.proofs.sight.times.Goals as goal

pub returns : goal.returns
returns c =
    let b : to_z w128 (of_z w128 c.from.result) ≡ c.args.b = omega (arith, ints) in
    let fits : FitsSigned w128 (c.args.a *ℤ c.args.b) = fits_signed_mul w128 c.args.a c.args.b (2 ^ 67) (2 ^ 33) (omega (arith, c.requires.a_small)) (omega (arith, c.requires.b_small)) (lit< tt) in
    let exact : to_z w128 (of_z w128 (to_z w128 (of_z w128 c.args.a) *ℤ to_z w128 (of_z w128 c.from.result))) ≡ c.args.a *ℤ c.args.b =
    rw (b, to_z-of_z w128 c.args.a c.ranges.a) (to_z-of_z w128 (c.args.a *ℤ c.args.b) fits) in
    record { value = exact }
