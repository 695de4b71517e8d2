use Rattle.std.proofs.Common.{arith, ◌≡◌, ◌-ℤ◌, w64, to_z, of_z}
use Rattle.std.proofs.lemmas.Int.{ints}
use Rattle.half_edges.proofs.rotation.way.Goals as goal

pub returns : goal.returns
returns c =
    let to_x : to_z w64 (of_z w64 (to_z w64 (of_z w64 c.args.to.x) -ℤ to_z w64 (of_z w64 c.args.from.x))) ≡ c.args.to.x -ℤ c.args.from.x =
    omega (arith, ints, c.requires.from_within.x, c.requires.to_within.x) in
    let to_y : to_z w64 (of_z w64 (to_z w64 (of_z w64 c.args.to.y) -ℤ to_z w64 (of_z w64 c.args.from.y))) ≡ c.args.to.y -ℤ c.args.from.y =
    omega (arith, ints, c.requires.from_within.y, c.requires.to_within.y) in
    λ i. record { x = to_x i; y = to_y i }
