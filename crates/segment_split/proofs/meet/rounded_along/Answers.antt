use Rattle.std.proofs.Common.{arith, ◌≡◌, sym, ◌∙◌, ◌*ℤ◌, ℤ, to_z, of_z, FitsSigned, rules, w64}
use Rattle.std.specs.Int.{w128, int_div_euclid}
use Rattle.std.proofs.lemmas.Int.{ints, to_z-of_z}
use Rattle.nest_base.specs.Range.{IsNear, widest}
use Rattle.segment_split.specs.Meetings.{numerator_along, IsPart}
use Rattle.segment_split.proofs.Floors.{IsQuotient, quotient}
use Rattle.segment_split.proofs.Bits.{product-fits, near_read, near_cast, same_bits}
use Rattle.segment_split.proofs.meet.rounded_along.Goals as goal

whole_read : (part whole : ℤ) → IsPart part whole → to_z w128 (of_z w128 whole) ≡ whole
whole_read part whole fraction = omega (arith, ints, fraction.positive, fraction.small)

-- the quotient, from what the calls say of the bits that they were given
read : (from to part whole exact down : ℤ) → FitsSigned w64 from → FitsSigned w64 to → FitsSigned w128 exact → IsNear widest from → IsNear widest to → IsPart part whole →
    exact ≡ numerator_along (to_z w64 (of_z w64 from)) (to_z w64 (of_z w64 to)) part whole → down ≡ int_div_euclid (to_z w128 (of_z w128 exact)) (to_z w128 (of_z w128 whole)) → IsQuotient (numerator_along from to part whole) whole down
read from to part whole exact down from_fits to_fits exact_fits from_near to_near fraction is_exact is_down =
    let exact_is = rw (to_z-of_z w64 from from_fits, to_z-of_z w64 to to_fits) at is_exact in
    let down_is = rw (to_z-of_z w128 exact exact_fits, whole_read part whole fraction, exact_is) at is_down in
    quotient from to part whole down from_near to_near fraction down_is

pub overflow_cast-result : goal.overflow_cast-result
overflow_cast-result c =
    let exact_fits : FitsSigned w128 c.coordinate_along-exact.result = search rules in
    let q = read c.args.from c.args.to c.args.f.part c.args.f.whole c.coordinate_along-exact.result c.div_euclid-down.result c.ranges.from c.ranges.to exact_fits c.requires.from_near c.requires.to_near c.requires.fraction c.coordinate_along-exact.ensures c.div_euclid-down.ensures in
    omega (arith, ints, q.near)

pub overflow_mul-result : goal.overflow_mul-result
overflow_mul-result c =
    let exact_fits : FitsSigned w128 c.coordinate_along-exact.result = search rules in
    let q = read c.args.from c.args.to c.args.f.part c.args.f.whole c.coordinate_along-exact.result c.div_euclid-down.result c.ranges.from c.ranges.to exact_fits c.requires.from_near c.requires.to_near c.requires.fraction c.coordinate_along-exact.ensures c.div_euclid-down.ensures in
    rw (near_read c.div_euclid-down.result q.near, whole_read c.args.f.part c.args.f.whole c.requires.fraction) (product-fits (c.div_euclid-down.result *ℤ c.args.f.whole) q.small)

pub returns-clause-down : goal.returns-clause-down
returns-clause-down c =
    let exact_fits : FitsSigned w128 c.coordinate_along-exact.result = search rules in
    let q = read c.args.from c.args.to c.args.f.part c.args.f.whole c.coordinate_along-exact.result c.div_euclid-down.result c.ranges.from c.ranges.to exact_fits c.requires.from_near c.requires.to_near c.requires.fraction c.coordinate_along-exact.ensures c.div_euclid-down.ensures in
    rw (near_cast c.div_euclid-down.result q.near) q.floor

pub returns-clause-exact : goal.returns-clause-exact
returns-clause-exact c =
    let exact_fits : FitsSigned w128 c.coordinate_along-exact.result = search rules in
    let q = read c.args.from c.args.to c.args.f.part c.args.f.whole c.coordinate_along-exact.result c.div_euclid-down.result c.ranges.from c.ranges.to exact_fits c.requires.from_near c.requires.to_near c.requires.fraction c.coordinate_along-exact.ensures c.div_euclid-down.ensures in
    let exact_is = rw (to_z-of_z w64 c.args.from c.ranges.from, to_z-of_z w64 c.args.to c.ranges.to) at c.coordinate_along-exact.ensures in
    let same = same_bits (c.div_euclid-down.result *ℤ c.args.f.whole) c.coordinate_along-exact.result (product-fits (c.div_euclid-down.result *ℤ c.args.f.whole) q.small) exact_fits in
    rw (near_cast c.div_euclid-down.result q.near, near_read c.div_euclid-down.result q.near, whole_read c.args.f.part c.args.f.whole c.requires.fraction) (λ h. same.0 h ∙ exact_is, λ h. same.1 (h ∙ sym exact_is))
