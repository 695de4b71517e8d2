-- Quotients rounded down.
use Rattle.std.proofs.Common.{arith, ◌≡◌, ◌<◌, ◌^◌, ℤ, pos, negsuc, ◌+ℤ◌, ◌-ℤ◌, ◌*ℤ◌, ◌<ℤ◌, ◌≤ℤ◌, inl, inr, sym}
use Rattle.std.specs.Prelude.{unsigned_abs}
use Rattle.std.specs.Int.{int_div_euclid}
use Rattle.std.proofs.lemmas.Int.{ints, by_lt_z}
use Rattle.nest_base.proofs.Signs.{mul_nonneg, mul_pos}
use Rattle.plate_edges.specs.Cuts.{IsFloor}
use Rattle.nest_base.specs.Plane.{IsBetween}
use Rattle.nest_base.specs.Range.{IsNear, widest}
use Rattle.segment_meeting.proofs.Factors.{sub-mul}
use Rattle.segment_meeting.proofs.Along.{between_along}
use Rattle.segment_split.specs.Meetings.{IsPart, numerator_along}
use Rattle.segment_split.proofs.Sizes.{start-small}

next-mul : (n w : ℤ) → (n +ℤ pos 1) *ℤ w ≡ (n *ℤ w) +ℤ w
next-mul n w =
    let one : (n +ℤ pos 1) -ℤ n ≡ pos 1 = omega (arith, ints) in
    let step = rw one at (sub-mul (n +ℤ pos 1) n w) in
    omega (arith, ints)

-- the division rounds down where the divisor is positive
pub floor_is : (z w : ℤ) → pos 0 <ℤ w → IsFloor z w (int_div_euclid z w)
floor_is (pos a) (pos n) some = (omega (arith, ints), omega (arith, ints, next-mul (int_div_euclid (pos a) (pos n)) (pos n)))
floor_is (negsuc a) (pos n) some = (omega (arith, ints), omega (arith, ints, next-mul (int_div_euclid (negsuc a) (pos n)) (pos n)))
floor_is z (negsuc n) some = absurd (omega (arith, ints))

-- a whole number whose product with w is at most z is at most the quotient
pub floor-above : (z w n m : ℤ) → pos 0 <ℤ w → IsFloor z w n → (m *ℤ w) ≤ℤ z → m ≤ℤ n
floor-above z w n m some floor below = by_lt_z n m
    (λ less. absurd (omega (arith, ints, floor.1, sub-mul m (n +ℤ pos 1) w, mul_nonneg (m -ℤ (n +ℤ pos 1)) w (omega (arith, ints)) (omega (arith, ints)))))
    (λ h. h)

-- and one whose product is at least z is at least the quotient
pub floor-below : (z w n m : ℤ) → pos 0 <ℤ w → IsFloor z w n → z ≤ℤ (m *ℤ w) → n ≤ℤ m
floor-below z w n m some floor above = by_lt_z m n
    (λ less. absurd (omega (arith, ints, floor.0, sub-mul n m w, mul_pos (n -ℤ m) w (omega (arith, ints)) some)))
    (λ h. h)

-- a multiple of w is the product of w and the quotient
pub floor_of_multiple : (z w n m : ℤ) → pos 0 <ℤ w → IsFloor z w n → z ≡ m *ℤ w → n *ℤ w ≡ z
floor_of_multiple z w n m some floor e =
    let low = floor-above z w n m some floor (omega (arith, ints, e)) in
    let high = floor-below z w n m some floor (omega (arith, ints, e)) in
    let same : n ≡ m = omega (arith, ints) in
    rw same (sym e)

-- a coordinate along a segment within the range, rounded down, lies within it too
pub floor-near : (from to part whole n : ℤ) → IsNear widest from → IsNear widest to → IsPart part whole → IsFloor (numerator_along from to part whole) whole n → IsNear widest n
floor-near from to part whole n from_near to_near fraction floor = cases (between_along from to part whole fraction.from_zero fraction.to_one)
  where
    z : ℤ
    z = numerator_along from to part whole

    cases : IsBetween (from *ℤ whole) z (to *ℤ whole) → IsNear widest n
    cases (inl h) =
        let low = floor-above z whole n from fraction.positive floor h.0 in
        let high = floor-below z whole n to fraction.positive floor h.1 in
        (omega (arith, ints, from_near), omega (arith, ints, to_near))
    cases (inr h) =
        let low = floor-above z whole n to fraction.positive floor h.0 in
        let high = floor-below z whole n from fraction.positive floor h.1 in
        (omega (arith, ints, to_near), omega (arith, ints, from_near))

-- a coordinate along a segment, rounded down to `down`, and the sizes that the code counts on
pub record IsQuotient (exact whole down : ℤ) : Type 0 where
  pub floor : IsFloor exact whole down
  pub near : IsNear widest down
  pub small : unsigned_abs (down *ℤ whole) < 2 ^ 98

pub quotient : (from to part whole down : ℤ) → IsNear widest from → IsNear widest to → IsPart part whole → down ≡ int_div_euclid (numerator_along from to part whole) whole → IsQuotient (numerator_along from to part whole) whole down
quotient from to part whole down from_near to_near fraction is_down =
    let floor : IsFloor (numerator_along from to part whole) whole down = rw is_down (floor_is (numerator_along from to part whole) whole fraction.positive) in
    let near = floor-near from to part whole down from_near to_near fraction floor in
    record { floor = floor; near = near; small = start-small down part whole near fraction }
