-- Places and points in relation to a line.
use Rattle.std.proofs.Common.{arith, ◌≡◌, ℤ, pos, ◌-ℤ◌, ◌*ℤ◌, inl, inr, sym, ◌∙◌}
use Rattle.std.specs.Prelude.{neg_ℤ}
use Rattle.std.proofs.lemmas.Int.{ints}
use Rattle.nest_base.specs.declared.places.Point.{Point}
use Rattle.nest_base.specs.Plane.{RationalPoint, IsOn, IsBetween, cross_product, direction, numerators, scaled}
use Rattle.nest_base.proofs.Differences.{diff_of, diffs, diff_same}
use Rattle.segment_meeting.specs.Orientation.{orientation}
use Rattle.segment_meeting.proofs.Factors.{zero_factor, sub-mul}

-- where the point p lies of the line from a to b, times its w
abbrev pub point_orientation : Point → Point → RationalPoint → ℤ
point_orientation a b p = cross_product (direction a b) (direction (scaled a p.w) (numerators p))

-- the cross product of the ways from p to both ends is that side, times w
pub line_cross : (a b : Point) (p : RationalPoint) → cross_product (direction (numerators p) (scaled a p.w)) (direction (numerators p) (scaled b p.w)) ≡ p.w *ℤ point_orientation a b p
line_cross a b p = rw (diff_of a.x, diff_of a.y, diff_of b.x, diff_of b.y, diff_of p.x, diff_of p.y, diff_of p.w) (simp diffs (diff_same _ _ _ _ (omega arith)))

-- so a point of a segment lies on neither side of it
pub side-on : (a b : Point) (p : RationalPoint) → IsOn p a b → point_orientation a b p ≡ pos 0
side-on a b p on = zero_factor p.w (point_orientation a b p) (λ e. omega (arith, ints, e, p.positive)) (sym (line_cross a b p) ∙ on.on_line)

-- the point p seen from a
abbrev pub seen_from : Point → RationalPoint → RationalPoint
seen_from a p = record { x = p.x -ℤ a.x *ℤ p.w; y = p.y -ℤ a.y *ℤ p.w; w = p.w; positive = p.positive }

-- what lies on a segment does so seen from anywhere
pub seen_on : (a c d : Point) (p : RationalPoint) → IsOn p c d → IsOn (seen_from a p) (direction a c) (direction a d)
seen_on a c d p on = record {
  on_line = rw (away a.x c.x p.w p.x, away a.y c.y p.w p.y, away a.x d.x p.w p.x, away a.y d.y p.w p.y) on.on_line;
  between_x = moved a.x c.x d.x p.w p.x on.between_x;
  between_y = moved a.y c.y d.y p.w p.y on.between_y;
} where
  away : (a c w x : ℤ) → (c -ℤ a) *ℤ w -ℤ (x -ℤ a *ℤ w) ≡ c *ℤ w -ℤ x
  away a c w x = omega (arith, ints, sub-mul c a w)

  moved : (a c d w x : ℤ) → IsBetween (c *ℤ w) x (d *ℤ w) → IsBetween ((c -ℤ a) *ℤ w) (x -ℤ a *ℤ w) ((d -ℤ a) *ℤ w)
  moved a c d w x (inl h) = inl (omega (arith, ints, h, sub-mul c a w), omega (arith, ints, h, sub-mul d a w))
  moved a c d w x (inr h) = inr (omega (arith, ints, h, sub-mul d a w), omega (arith, ints, h, sub-mul c a w))

-- seen the other way left is right
pub orientation-turned : (a b q : Point) → orientation b a q ≡ neg_ℤ (orientation a b q)
orientation-turned a b q = rw (diff_of a.x, diff_of a.y, diff_of b.x, diff_of b.y, diff_of q.x, diff_of q.y) (simp diffs (diff_same _ _ _ _ (omega arith)))

-- a side seen from the place itself
pub orientation-seen : (a b q : Point) → cross_product (direction q a) (direction q b) ≡ orientation a b q
orientation-seen a b q = rw (diff_of a.x, diff_of a.y, diff_of b.x, diff_of b.y, diff_of q.x, diff_of q.y) (simp diffs (diff_same _ _ _ _ (omega arith)))
