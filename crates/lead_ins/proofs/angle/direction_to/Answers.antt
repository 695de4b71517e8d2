use Rattle.std.proofs.Common.{arith, ◌≡◌, ◌-ℤ◌, w64, to_z, of_z}
use Rattle.std.proofs.lemmas.Int.{ints}
use Rattle.lead_ins.proofs.angle.direction_to.Goals as goal

pub returns : goal.returns
returns c =
    let across : to_z w64 (of_z w64 (to_z w64 (of_z w64 c.args.b.x) -ℤ to_z w64 (of_z w64 c.args.a.x))) ≡ c.args.b.x -ℤ c.args.a.x =
    omega (arith, ints, c.requires.a_within.x, c.requires.b_within.x) in
    let up : to_z w64 (of_z w64 (to_z w64 (of_z w64 c.args.b.y) -ℤ to_z w64 (of_z w64 c.args.a.y))) ≡ c.args.b.y -ℤ c.args.a.y =
    omega (arith, ints, c.requires.a_within.y, c.requires.b_within.y) in
    λ i. record { x = across i; y = up i }
