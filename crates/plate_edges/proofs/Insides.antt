-- What lies on a part of a segment, and inside it, by the order of places.
use Rattle.std.proofs.Common.{arith, ◌≡◌, ◌≢◌, ℤ, pos, ◌-ℤ◌, ◌*ℤ◌, ◌<ℤ◌, inl, inr, sym, ap, ◌∙◌}
use Rattle.std.specs.Prelude.{neg_ℤ}
use Rattle.std.proofs.lemmas.Int.{ints}
use Rattle.nest_base.specs.declared.places.Point.{Point}
use Rattle.nest_base.specs.Plane.{RationalPoint, rational, IsOn, IsBetween, cross_product, direction, scaled, numerators}
use Rattle.nest_base.specs.Order.{IsBefore}
use Rattle.nest_base.proofs.Differences.{neg-mul, mul-neg}
use Rattle.nest_base.proofs.Directions.{cross_product-turned}
use Rattle.nest_base.proofs.Orders.{IsBefore-irrefl}
use Rattle.nest_base.proofs.Points.{on_place, line_of_place, across_place, up_place}
use Rattle.nest_base.proofs.Signs.{mul_pos}
use Rattle.segment_meeting.specs.Orientation.{orientation}
use Rattle.segment_meeting.proofs.Between.{only_between}
use Rattle.segment_meeting.proofs.Collinear.{level}
use Rattle.segment_meeting.proofs.Lines.{orientation-seen, side-on, point_orientation, line_cross}
use Rattle.plate_edges.specs.Edges.{IsInside}
use Rattle.plate_edges.proofs.Directions.{in_line, side-place, only_place, along_third, some_direction, way_along, side-moved}
use Rattle.plate_edges.proofs.Orders.{by_order}
use Rattle.plate_edges.proofs.Places.{place_at, at_place}
use Rattle.plate_edges.proofs.Scaled.{scaled_between}

-- in that order the x come in order, and on an upright line the y
across_between : (p q r : Point) → IsBefore p q → IsBefore q r → IsBetween p.x q.x r.x
across_between p q r (inl h) (inl k) = inl (omega (arith, ints), omega (arith, ints))
across_between p q r (inl h) (inr k) = inl (omega (arith, ints), omega (arith, ints, k.0))
across_between p q r (inr h) (inl k) = inl (omega (arith, ints, h.0), omega (arith, ints))
across_between p q r (inr h) (inr k) = inl (omega (arith, ints, h.0), omega (arith, ints, k.0))

up_between : (p q r : Point) → orientation p r q ≡ pos 0 → IsBefore p q → IsBefore q r → IsBetween p.y q.y r.y
up_between p q r line (inl h) (inl k) = level p r q (λ e. omega (arith, ints, e)) line (across_between p q r (inl h) (inl k))
up_between p q r line (inl h) (inr k) = level p r q (λ e. omega (arith, ints, e, k.0)) line (across_between p q r (inl h) (inr k))
up_between p q r line (inr h) (inl k) = level p r q (λ e. omega (arith, ints, e, h.0)) line (across_between p q r (inr h) (inl k))
up_between p q r line (inr h) (inr k) = inl (omega (arith, ints, h.1), omega (arith, ints, k.1))

-- a place of a line between two others, in the order of places, lies inside their part
pub inside_in_line : (p q r : Point) → orientation p r q ≡ pos 0 → IsBefore p q → IsBefore q r → IsInside (rational q) p r
inside_in_line p q r line low high = (
  on_place q p r (orientation-seen p r q ∙ line) (across_between p q r low high) (up_between p q r line low high),
  (λ at. IsBefore-irrefl p q low (sym (place_at q p at))),
  (λ at. IsBefore-irrefl q r high (place_at q r at)),
)

-- so does a place of a segment between two others
pub inside_between : (a b p q r : Point) → IsOn (rational p) a b → IsOn (rational q) a b → IsOn (rational r) a b → IsBefore p q → IsBefore q r → IsInside (rational q) p r
inside_between a b p q r on_p on_q on_r low high =
    let apart : a ≢ b = λ same. IsBefore-irrefl p q low (only_place a b p same on_p ∙ sym (only_place a b q same on_q)) in
    inside_in_line p q r (in_line a b p q r apart (side-place a b p on_p) (side-place a b q on_q) (side-place a b r on_r)) low high

-- a product of two positive numbers isn't 0
no_turn : (u v s t : ℤ) → u ≡ pos 0 → pos 0 <ℤ s → pos 0 <ℤ t → u *ℤ v -ℤ s *ℤ t ≡ pos 0 → ⊥
no_turn u v s t e up right h = let turn = rw e at h in omega (arith, ints, turn, mul_pos s t up right)

no_turn_back : (u v s t : ℤ) → u ≡ pos 0 → s <ℤ pos 0 → t <ℤ pos 0 → s *ℤ t -ℤ v *ℤ u ≡ pos 0 → ⊥
no_turn_back u v s t e down left h =
    let turn = rw e at h in
    omega (arith, ints, turn, mul_pos (neg_ℤ s) (neg_ℤ t) (omega (arith, ints)) (omega (arith, ints)), neg-mul s (neg_ℤ t), mul-neg s t)

-- what lies on a part doesn't come before it
pub not_below : (p q r : Point) → IsBefore p r → IsOn (rational q) p r → IsBefore q p → ⊥
not_below p q r order on below = cases order (across_place q p r on) below
  where
    cases : IsBefore p r → IsBetween p.x q.x r.x → IsBefore q p → ⊥
    cases (inl h) (inl k) (inl l) = omega (arith, ints)
    cases (inl h) (inr k) (inl l) = omega (arith, ints)
    cases (inl h) k (inr l) =
        no_turn (p.x -ℤ q.x) (r.y -ℤ q.y) (p.y -ℤ q.y) (r.x -ℤ q.x) (omega (arith, ints, l.0)) (omega (arith, ints, l.1)) (omega (arith, ints, l.0)) (line_of_place q p r on)
    cases (inr h) k (inl l) = omega (arith, ints, only_between p.x q.x r.x h.0 k)
    cases (inr h) k (inr l) = upright h.1 l.1 (up_place q p r on)
      where
        upright : p.y <ℤ r.y → q.y <ℤ p.y → IsBetween p.y q.y r.y → ⊥
        upright f g (inl m) = omega (arith, ints)
        upright f g (inr m) = omega (arith, ints)

-- nor after it
pub not_above : (p q r : Point) → IsBefore p r → IsOn (rational q) p r → IsBefore r q → ⊥
not_above p q r order on above = cases order (across_place q p r on) above
  where
    cases : IsBefore p r → IsBetween p.x q.x r.x → IsBefore r q → ⊥
    cases (inl h) (inl k) (inl l) = omega (arith, ints)
    cases (inl h) (inr k) (inl l) = omega (arith, ints)
    cases (inl h) k (inr l) =
        no_turn_back (r.x -ℤ q.x) (p.y -ℤ q.y) (p.x -ℤ q.x) (r.y -ℤ q.y) (omega (arith, ints, l.0)) (omega (arith, ints, l.0)) (omega (arith, ints, l.1)) (line_of_place q p r on)
    cases (inr h) k (inl l) = omega (arith, ints, h.0, only_between p.x q.x r.x h.0 k)
    cases (inr h) k (inr l) = upright h.1 l.1 (up_place q p r on)
      where
        upright : p.y <ℤ r.y → r.y <ℤ q.y → IsBetween p.y q.y r.y → ⊥
        upright f g (inl m) = omega (arith, ints)
        upright f g (inr m) = omega (arith, ints)

-- and what lies inside comes between the ends
pub between_inside : (p q r : Point) → IsBefore p r → IsInside (rational q) p r → IsBefore p q × IsBefore q r
between_inside p q r order inside = (
  by_order p q (λ less. less) (λ same. absurd (inside.1 (at_place q p (sym same)))) (λ below. absurd (not_below p q r order inside.0 below)),
  by_order q r (λ less. less) (λ same. absurd (inside.2 (at_place q r same))) (λ above. absurd (not_above p q r order inside.0 above)),
)

-- what lies between two numbers that lie between others does so too
within_between : (a k l b m : ℤ) → IsBetween a k b → IsBetween a l b → IsBetween k m l → IsBetween a m b
within_between a k l b m (inl h) (inl g) (inl f) = inl (omega (arith, ints, h, g, f), omega (arith, ints, h, g, f))
within_between a k l b m (inl h) (inl g) (inr f) = inl (omega (arith, ints, h, g, f), omega (arith, ints, h, g, f))
within_between a k l b m (inl h) (inr g) (inl f) = inl (omega (arith, ints, h, g, f), omega (arith, ints, h, g, f))
within_between a k l b m (inl h) (inr g) (inr f) = inl (omega (arith, ints, h, g, f), omega (arith, ints, h, g, f))
within_between a k l b m (inr h) (inl g) (inl f) = inr (omega (arith, ints, h, g, f), omega (arith, ints, h, g, f))
within_between a k l b m (inr h) (inl g) (inr f) = inr (omega (arith, ints, h, g, f), omega (arith, ints, h, g, f))
within_between a k l b m (inr h) (inr g) (inl f) = inr (omega (arith, ints, h, g, f), omega (arith, ints, h, g, f))
within_between a k l b m (inr h) (inr g) (inr f) = inr (omega (arith, ints, h, g, f), omega (arith, ints, h, g, f))

-- what lies on a part of a segment lies on the segment
pub on_part : (a b p r : Point) (x : RationalPoint) → IsOn (rational p) a b → IsOn (rational r) a b → IsOn x p r → IsOn x a b
on_part a b p r x on_p on_r on = record {
  on_line = line_cross a b x ∙ (rw off (omega (arith, ints)));
  between_x = within_between (a.x *ℤ x.w) (p.x *ℤ x.w) (r.x *ℤ x.w) (b.x *ℤ x.w) x.x
      (scaled_between a.x p.x b.x x.w x.positive (across_place p a b on_p)) (scaled_between a.x r.x b.x x.w x.positive (across_place r a b on_r)) on.between_x;
  between_y = within_between (a.y *ℤ x.w) (p.y *ℤ x.w) (r.y *ℤ x.w) (b.y *ℤ x.w) x.y
      (scaled_between a.y p.y b.y x.w x.positive (up_place p a b on_p)) (scaled_between a.y r.y b.y x.w x.positive (up_place r a b on_r)) on.between_y;
} where
  way : Point
  way = direction (scaled p x.w) (numerators x)

  on_part_line : p ≢ r → cross_product (direction a b) way ≡ pos 0
  on_part_line apart =
      along_third (direction p r) (direction a b) way (some_direction p r apart)
      (cross_product-turned (direction a b) (direction p r) (way_along a b p r (side-place a b p on_p) (side-place a b r on_r))) (side-on p r x on)

  at_part : p ≡ r → cross_product (direction a b) way ≡ pos 0
  at_part same =
      let at_x : way.x ≡ pos 0 = omega (arith, ints, only_between (p.x *ℤ x.w) x.x (r.x *ℤ x.w) (ap (λ (q : Point). q.x *ℤ x.w) same) on.between_x) in
      let at_y : way.y ≡ pos 0 = omega (arith, ints, only_between (p.y *ℤ x.w) x.y (r.y *ℤ x.w) (ap (λ (q : Point). q.y *ℤ x.w) same) on.between_y) in
      rw (at_x, at_y) (omega (arith, ints))

  along : cross_product (direction a b) way ≡ pos 0
  along = by_order p r (λ less. on_part_line (IsBefore-irrefl p r less)) at_part (λ more. on_part_line (λ same. IsBefore-irrefl r p more (sym same)))

  off : point_orientation a b x ≡ pos 0
  off = let moved = rw (along, side-place a b p on_p) at (side-moved a.x a.y b.x b.y p.x p.y x.x x.y x.w) in omega (arith, ints, moved)
