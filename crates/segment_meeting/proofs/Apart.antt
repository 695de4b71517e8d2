-- Segments that a line parts have no point in common.
use Rattle.std.proofs.Common.{arith, ◌≡◌, pos, ◌+ℤ◌, ◌-ℤ◌, ◌*ℤ◌, ◌<ℤ◌, inl, inr}
use Rattle.std.proofs.lemmas.Int.{ints}
use Rattle.nest_base.specs.declared.places.Point.{Point}
use Rattle.nest_base.specs.declared.places.Segment.{Segment}
use Rattle.nest_base.specs.Plane.{RationalPoint, IsOn, MeetIn, cross_product, direction, numerators}
use Rattle.nest_base.proofs.Differences.{diff_of, diffs, diff_same}
use Rattle.nest_base.proofs.Points.{turned_on}
use Rattle.nest_base.proofs.Signs.{mul_pos}
use Rattle.segment_meeting.specs.Orientation.{orientation, LieAside, AreBoxesApart}
use Rattle.segment_meeting.proofs.Between.{zero_mean, not_before}
use Rattle.segment_meeting.proofs.Lines.{point_orientation, side-on, orientation-turned, seen_from, seen_on}

-- the side of a point of a segment is a mean of the sides of its ends, by how far it lies along in x
mean_x : (e c d : Point) (p : RationalPoint) → (d.x -ℤ c.x) *ℤ cross_product e (numerators p) ≡ (d.x *ℤ p.w -ℤ p.x) *ℤ cross_product e c +ℤ (p.x -ℤ c.x *ℤ p.w) *ℤ cross_product e d +ℤ e.x *ℤ point_orientation c d p
mean_x e c d p = rw (diff_of e.x, diff_of e.y, diff_of c.x, diff_of c.y, diff_of d.x, diff_of d.y, diff_of p.x, diff_of p.y, diff_of p.w) (simp diffs (diff_same _ _ _ _ (omega arith)))

-- and by how far it lies along in y
mean_y : (e c d : Point) (p : RationalPoint) → (d.y -ℤ c.y) *ℤ cross_product e (numerators p) ≡ (d.y *ℤ p.w -ℤ p.y) *ℤ cross_product e c +ℤ (p.y -ℤ c.y *ℤ p.w) *ℤ cross_product e d +ℤ e.y *ℤ point_orientation c d p
mean_y e c d p = rw (diff_of e.x, diff_of e.y, diff_of c.x, diff_of c.y, diff_of d.x, diff_of d.y, diff_of p.x, diff_of p.y, diff_of p.w) (simp diffs (diff_same _ _ _ _ (omega arith)))

-- the side of a point beside a place
beside : (e c : Point) (p : RationalPoint) → cross_product e (numerators p) ≡ cross_product e c *ℤ p.w +ℤ e.x *ℤ (p.y -ℤ c.y *ℤ p.w) -ℤ e.y *ℤ (p.x -ℤ c.x *ℤ p.w)
beside e c p = rw (diff_of e.x, diff_of e.y, diff_of c.x, diff_of c.y, diff_of p.x, diff_of p.y, diff_of p.w) (simp diffs (diff_same _ _ _ _ (omega arith)))

-- a segment whose ends lie to the left of the way e has no point in line with it
not_in_line : (e c d : Point) (p : RationalPoint) → cross_product e (numerators p) ≡ pos 0 → IsOn p c d → pos 0 <ℤ cross_product e c → pos 0 <ℤ cross_product e d → ⊥
not_in_line e c d p in_line on left_c left_d =
    let f = cross_product e c in
    let g = cross_product e d in
    let straight = side-on c d p on in
    let mean_of_x = rw (in_line, straight) at (mean_x e c d p) in
    let mean_of_y = rw (in_line, straight) at (mean_y e c d p) in
    let at_x = zero_mean (c.x *ℤ p.w) p.x (d.x *ℤ p.w) f g on.between_x left_c left_d (omega (arith, ints, mean_of_x)) in
    let at_y = zero_mean (c.y *ℤ p.w) p.y (d.y *ℤ p.w) f g on.between_y left_c left_d (omega (arith, ints, mean_of_y)) in
    let no_x : p.x -ℤ c.x *ℤ p.w ≡ pos 0 = omega (arith, ints, at_x) in
    let no_y : p.y -ℤ c.y *ℤ p.w ≡ pos 0 = omega (arith, ints, at_y) in
    let at_c = rw (in_line, no_x, no_y) at (beside e c p) in
    omega (arith, ints, at_c, mul_pos f p.w left_c p.positive)

-- so it has none on a segment to whose left both ends lie
not_left : (a b c d : Point) (p : RationalPoint) → IsOn p a b → IsOn p c d → pos 0 <ℤ orientation a b c → pos 0 <ℤ orientation a b d → ⊥
not_left a b c d p ab cd left_c left_d = not_in_line (direction a b) (direction a c) (direction a d) (seen_from a p) (side-on a b p ab) (seen_on a c d p cd) left_c left_d

-- nor on one to either side of which both lie
pub not_aside : (a b c d : Point) (p : RationalPoint) → IsOn p a b → IsOn p c d → LieAside a b c d → ⊥
not_aside a b c d p ab cd (inl h) = not_left a b c d p ab cd h.0 h.1
not_aside a b c d p ab cd (inr h) = not_left b a c d p (turned_on a b p ab) cd (omega (arith, ints, h, orientation-turned a b c)) (omega (arith, ints, h, orientation-turned a b d))

-- segments whose boxes lie apart have none
pub boxes_touch : (s t : Segment) (p : RationalPoint) → MeetIn s t p → AreBoxesApart s t → ⊥
boxes_touch s t p meet (inl (inl h)) = not_before s.a.x s.b.x t.a.x t.b.x p.w p.x p.positive meet.0.between_x meet.1.between_x h
boxes_touch s t p meet (inl (inr h)) = not_before t.a.x t.b.x s.a.x s.b.x p.w p.x p.positive meet.1.between_x meet.0.between_x h
boxes_touch s t p meet (inr (inl h)) = not_before s.a.y s.b.y t.a.y t.b.y p.w p.y p.positive meet.0.between_y meet.1.between_y h
boxes_touch s t p meet (inr (inr h)) = not_before t.a.y t.b.y s.a.y s.b.y p.w p.y p.positive meet.1.between_y meet.0.between_y h
