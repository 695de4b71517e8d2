-- Points a part of the way along a segment.
use Rattle.std.proofs.Common.{arith, ◌≡◌, ℤ, pos, ◌+ℤ◌, ◌-ℤ◌, ◌*ℤ◌, ◌<ℤ◌, ◌≤ℤ◌, inl, inr}
use Rattle.std.specs.Prelude.{neg_ℤ}
use Rattle.std.proofs.lemmas.Int.{ints, by_lt_z}
use Rattle.nest_base.specs.declared.places.Point.{Point}
use Rattle.nest_base.specs.Plane.{RationalPoint, IsOn, IsBetween}
use Rattle.nest_base.proofs.Differences.{diff_of, diffs, diff_same, neg-mul}
use Rattle.nest_base.proofs.Signs.{mul_nonneg}

-- the point t / w of the way from a to b
abbrev pub point_along : (a b : Point) (t w : ℤ) → pos 0 <ℤ w → RationalPoint
point_along a b t w some = record { x = a.x *ℤ w +ℤ (b.x -ℤ a.x) *ℤ t; y = a.y *ℤ w +ℤ (b.y -ℤ a.y) *ℤ t; w = w; positive = some }

-- its coordinates lie between those of a and b
pub between_along : (a b t w : ℤ) → pos 0 ≤ℤ t → t ≤ℤ w → IsBetween (a *ℤ w) (a *ℤ w +ℤ (b -ℤ a) *ℤ t) (b *ℤ w)
between_along a b t w low high =
    let rest : b *ℤ w -ℤ (a *ℤ w +ℤ (b -ℤ a) *ℤ t) ≡ (b -ℤ a) *ℤ (w -ℤ t) = rw (diff_of a, diff_of b, diff_of t, diff_of w) (simp diffs (diff_same _ _ _ _ (omega arith))) in
    by_lt_z b a
    (λ down.
    let back = neg-mul (b -ℤ a) t in
    let back_rest = neg-mul (b -ℤ a) (w -ℤ t) in
    inr (omega (arith, ints, rest, back_rest, mul_nonneg (neg_ℤ (b -ℤ a)) (w -ℤ t) (omega (arith, ints)) (omega (arith, ints))), omega (arith, ints, back, mul_nonneg (neg_ℤ (b -ℤ a)) t (omega (arith, ints)) low)))
    (λ up. inl (omega (arith, ints, mul_nonneg (b -ℤ a) t (omega (arith, ints)) low), omega (arith, ints, rest, mul_nonneg (b -ℤ a) (w -ℤ t) (omega (arith, ints)) (omega (arith, ints)))))

-- and it lies on their line
line_along : (ax ay bx by t w : ℤ) → (ax *ℤ w -ℤ (ax *ℤ w +ℤ (bx -ℤ ax) *ℤ t)) *ℤ (by *ℤ w -ℤ (ay *ℤ w +ℤ (by -ℤ ay) *ℤ t)) ≡ (ay *ℤ w -ℤ (ay *ℤ w +ℤ (by -ℤ ay) *ℤ t)) *ℤ (bx *ℤ w -ℤ (ax *ℤ w +ℤ (bx -ℤ ax) *ℤ t))
line_along ax ay bx by t w = rw (diff_of ax, diff_of ay, diff_of bx, diff_of by, diff_of t, diff_of w) (simp diffs (diff_same _ _ _ _ (omega arith)))

-- a point a part of the way along a segment lies on it
pub point_along-on : (a b : Point) (t w : ℤ) (some : pos 0 <ℤ w) → pos 0 ≤ℤ t → t ≤ℤ w → IsOn (point_along a b t w some) a b
point_along-on a b t w some low high = record {
  on_line = omega (arith, ints, line_along a.x a.y b.x b.y t w);
  between_x = between_along a.x b.x t w low high;
  between_y = between_along a.y b.y t w low high;
}
