-- How large cross products of places within the range get, and coordinates along a segment.
use Rattle.std.proofs.Common.{arith, ◌<◌, ◌^◌, ℤ, ◌-ℤ◌, ◌*ℤ◌}
use Rattle.std.specs.Prelude.{unsigned_abs}
use Rattle.std.proofs.lemmas.Int.{ints, unsigned_abs-mul}
use Rattle.std.proofs.lemmas.Nat.{mul-lt}
use Rattle.nest_base.specs.declared.places.Point.{Point}
use Rattle.nest_base.specs.declared.places.Segment.{Segment}
use Rattle.nest_base.specs.Plane.{cross_product, direction}
use Rattle.nest_base.specs.Range.{IsNear, IsWithin, IsSegmentWithin, widest}
use Rattle.segment_split.specs.Meetings.{IsPart}

way-small : (a b : ℤ) → IsNear widest a → IsNear widest b → unsigned_abs (b -ℤ a) < 2 ^ 32
way-small a b p q = omega (arith, ints, p, q)

sub-small : (a b : ℤ) → unsigned_abs a < 2 ^ 64 → unsigned_abs b < 2 ^ 64 → unsigned_abs (a -ℤ b) < 2 ^ 66
sub-small a b p q = omega (arith, ints)

mul-small : (a b : ℤ) → unsigned_abs a < 2 ^ 32 → unsigned_abs b < 2 ^ 32 → unsigned_abs (a *ℤ b) < 2 ^ 64
mul-small a b p q = rw (unsigned_abs-mul a b) (mul-lt _ _ (2 ^ 32) (2 ^ 32) p q)

-- the cross product of two ways between such places
pub cross_product-small : (a b c d : Point) → IsWithin widest a → IsWithin widest b → IsWithin widest c → IsWithin widest d →
    unsigned_abs (cross_product (direction a b) (direction c d)) < 2 ^ 66
cross_product-small a b c d in_a in_b in_c in_d =
    let ab_x = way-small a.x b.x in_a.x in_b.x in
    let ab_y = way-small a.y b.y in_a.y in_b.y in
    let cd_x = way-small c.x d.x in_c.x in_d.x in
    let cd_y = way-small c.y d.y in_c.y in_d.y in
    sub-small ((b.x -ℤ a.x) *ℤ (d.y -ℤ c.y)) ((b.y -ℤ a.y) *ℤ (d.x -ℤ c.x)) (mul-small (b.x -ℤ a.x) (d.y -ℤ c.y) ab_x cd_y) (mul-small (b.y -ℤ a.y) (d.x -ℤ c.x) ab_y cd_x)

-- by how much one segment turns from another
pub turn-small : (s t : Segment) → IsSegmentWithin widest s → IsSegmentWithin widest t → unsigned_abs (cross_product (direction s.a s.b) (direction t.a t.b)) < 2 ^ 66
turn-small s t in_s in_t = cross_product-small s.a s.b t.a t.b in_s.a in_s.b in_t.a in_t.b

part-small : (part whole : ℤ) → IsPart part whole → unsigned_abs part < 2 ^ 66
part-small part whole fraction = omega (arith, ints, fraction.from_zero, fraction.to_one, fraction.small)

-- the two products that make a coordinate along a segment
pub start-small : (from part whole : ℤ) → IsNear widest from → IsPart part whole → unsigned_abs (from *ℤ whole) < 2 ^ 98
start-small from part whole near fraction =
    let from_small : unsigned_abs from < 2 ^ 32 = omega (arith, ints, near) in
    rw (unsigned_abs-mul from whole) (mul-lt _ _ (2 ^ 32) (2 ^ 66) from_small fraction.small)

pub rise-small : (from to part whole : ℤ) → IsNear widest from → IsNear widest to → IsPart part whole → unsigned_abs ((to -ℤ from) *ℤ part) < 2 ^ 98
rise-small from to part whole from_near to_near fraction =
    rw (unsigned_abs-mul (to -ℤ from) part) (mul-lt _ _ (2 ^ 32) (2 ^ 66) (way-small from to from_near to_near) (part-small part whole fraction))
