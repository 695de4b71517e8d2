use Rattle.std.proofs.Common.{arith, ◌≡◌, ◌<◌, ◌^◌, ◌-ℤ◌, ◌*ℤ◌, to_z, of_z}
use Rattle.std.specs.Prelude.{unsigned_abs}
use Rattle.std.specs.Int.{w128}
use Rattle.std.proofs.lemmas.Int.{ints}
use Rattle.segment_split.proofs.Sizes.{start-small, rise-small}
use Rattle.segment_split.proofs.Bits.{add-fits, add_exact, product-fits}
use Rattle.segment_split.proofs.meet.coordinate_along.Goals as goal

pub overflow_mul-result-2 : goal.overflow_mul-result-2
overflow_mul-result-2 c =
    let way : to_z w128 (of_z w128 (to_z w128 (of_z w128 c.from-2.result) -ℤ to_z w128 (of_z w128 c.from-3.result))) ≡ c.args.to -ℤ c.args.from = omega (arith, ints, c.from-2.ensures, c.from-3.ensures) in
    let part : to_z w128 (of_z w128 c.args.f.part) ≡ c.args.f.part = omega (arith, ints) in
    let small : unsigned_abs ((c.args.to -ℤ c.args.from) *ℤ c.args.f.part) < 2 ^ 98 = rise-small c.args.from c.args.to c.args.f.part c.args.f.whole c.requires.from_near c.requires.to_near c.requires.fraction in
    rw (way, part) (product-fits ((c.args.to -ℤ c.args.from) *ℤ c.args.f.part) small)

pub overflow_add-result : goal.overflow_add-result
overflow_add-result c =
    let start : to_z w128 (of_z w128 c.from.result) ≡ c.args.from = omega (arith, ints, c.from.ensures) in
    let whole : to_z w128 (of_z w128 c.args.f.whole) ≡ c.args.f.whole = omega (arith, ints) in
    let way : to_z w128 (of_z w128 (to_z w128 (of_z w128 c.from-2.result) -ℤ to_z w128 (of_z w128 c.from-3.result))) ≡ c.args.to -ℤ c.args.from = omega (arith, ints, c.from-2.ensures, c.from-3.ensures) in
    let part : to_z w128 (of_z w128 c.args.f.part) ≡ c.args.f.part = omega (arith, ints) in
    rw (start, whole, way, part) (add-fits (c.args.from *ℤ c.args.f.whole) ((c.args.to -ℤ c.args.from) *ℤ c.args.f.part)
    (start-small c.args.from c.args.f.part c.args.f.whole c.requires.from_near c.requires.fraction)
    (rise-small c.args.from c.args.to c.args.f.part c.args.f.whole c.requires.from_near c.requires.to_near c.requires.fraction))

pub returns : goal.returns
returns c =
    let start : to_z w128 (of_z w128 c.from.result) ≡ c.args.from = omega (arith, ints, c.from.ensures) in
    let whole : to_z w128 (of_z w128 c.args.f.whole) ≡ c.args.f.whole = omega (arith, ints) in
    let way : to_z w128 (of_z w128 (to_z w128 (of_z w128 c.from-2.result) -ℤ to_z w128 (of_z w128 c.from-3.result))) ≡ c.args.to -ℤ c.args.from = omega (arith, ints, c.from-2.ensures, c.from-3.ensures) in
    let part : to_z w128 (of_z w128 c.args.f.part) ≡ c.args.f.part = omega (arith, ints) in
    rw (start, whole, way, part) (add_exact (c.args.from *ℤ c.args.f.whole) ((c.args.to -ℤ c.args.from) *ℤ c.args.f.part)
    (start-small c.args.from c.args.f.part c.args.f.whole c.requires.from_near c.requires.fraction)
    (rise-small c.args.from c.args.to c.args.f.part c.args.f.whole c.requires.from_near c.requires.to_near c.requires.fraction))
