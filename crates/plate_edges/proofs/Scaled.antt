-- Places with their coordinates times a positive w, beside which points of the plane are places.
use Rattle.std.proofs.Common.{arith, ◌≡◌, ℤ, pos, ◌-ℤ◌, ◌*ℤ◌, ◌<ℤ◌, ◌≤ℤ◌, inl, inr, sym, ap, subst, ◌∙◌}
use Rattle.std.proofs.lemmas.Int.{ints, by_lt_z}
use Rattle.nest_base.specs.declared.places.Point.{Point}
use Rattle.nest_base.specs.Plane.{RationalPoint, rational, scaled, numerators, IsAt, IsOn, IsBetween}
use Rattle.nest_base.specs.Order.{IsBefore}
use Rattle.nest_base.proofs.Differences.{diff_of, diff_same, diffs}
use Rattle.nest_base.proofs.Points.{on_place, line_of_place, across_place, up_place}
use Rattle.nest_base.proofs.Signs.{mul_pos, mul_nonneg}
use Rattle.segment_meeting.specs.Orientation.{orientation}
use Rattle.segment_meeting.proofs.Factors.{sub-mul, zero_factor}
use Rattle.segment_meeting.proofs.Lines.{orientation-seen}
use Rattle.segment_meeting.proofs.OnePoint.{times_zero}
use Rattle.plate_edges.specs.Edges.{IsInside}
use Rattle.plate_edges.proofs.Places.{place_at}

pub scaled_lt : (a b w : ℤ) → pos 0 <ℤ w → a <ℤ b → (a *ℤ w) <ℤ (b *ℤ w)
scaled_lt a b w some h = omega (arith, ints, sub-mul b a w, mul_pos (b -ℤ a) w (omega (arith, ints)) some)

pub scaled_le : (a b w : ℤ) → pos 0 <ℤ w → a ≤ℤ b → (a *ℤ w) ≤ℤ (b *ℤ w)
scaled_le a b w some h = omega (arith, ints, sub-mul b a w, mul_nonneg (b -ℤ a) w (omega (arith, ints)) (omega (arith, ints)))

unscaled_le : (a b w : ℤ) → pos 0 <ℤ w → (a *ℤ w) ≤ℤ (b *ℤ w) → a ≤ℤ b
unscaled_le a b w some h = by_lt_z b a (λ less. absurd (omega (arith, ints, h, scaled_lt b a w some less))) (λ at_least. at_least)

-- numbers between two others, times w, and back
pub scaled_between : (a m b w : ℤ) → pos 0 <ℤ w → IsBetween a m b → IsBetween (a *ℤ w) (m *ℤ w) (b *ℤ w)
scaled_between a m b w some (inl h) = inl (scaled_le a m w some h.0, scaled_le m b w some h.1)
scaled_between a m b w some (inr h) = inr (scaled_le b m w some h.0, scaled_le m a w some h.1)

unscaled_between : (a m b w : ℤ) → pos 0 <ℤ w → IsBetween (a *ℤ w) (m *ℤ w) (b *ℤ w) → IsBetween a m b
unscaled_between a m b w some (inl h) = inl (unscaled_le a m w some h.0, unscaled_le m b w some h.1)
unscaled_between a m b w some (inr h) = inr (unscaled_le b m w some h.0, unscaled_le m a w some h.1)

-- the order of places stays
pub scaled_before : (a b : Point) (w : ℤ) → pos 0 <ℤ w → IsBefore a b → IsBefore (scaled a w) (scaled b w)
scaled_before a b w some (inl h) = inl (scaled_lt a.x b.x w some h)
scaled_before a b w some (inr h) = inr (ap (λ v. v *ℤ w) h.0, scaled_lt a.y b.y w some h.1)

-- and so does a line
scaled_cross : (ax ay bx by w : ℤ) → ((ax *ℤ w) *ℤ (by *ℤ w)) -ℤ ((ay *ℤ w) *ℤ (bx *ℤ w)) ≡ w *ℤ (w *ℤ ((ax *ℤ by) -ℤ (ay *ℤ bx)))
scaled_cross ax ay bx by w = rw (diff_of ax, diff_of ay, diff_of bx, diff_of by, diff_of w) (simp diffs (diff_same _ _ _ _ (omega arith)))

pub scaled_side : (a b q : Point) (w : ℤ) → orientation (scaled a w) (scaled b w) (scaled q w) ≡ w *ℤ (w *ℤ orientation a b q)
scaled_side a b q w =
    rw (sym (sub-mul b.x a.x w), sym (sub-mul b.y a.y w), sym (sub-mul q.x a.x w), sym (sub-mul q.y a.y w))
    (scaled_cross (b.x -ℤ a.x) (b.y -ℤ a.y) (q.x -ℤ a.x) (q.y -ℤ a.y) w)

pub scaled_line : (a b q : Point) (w : ℤ) → orientation a b q ≡ pos 0 → orientation (scaled a w) (scaled b w) (scaled q w) ≡ pos 0
scaled_line a b q w line = scaled_side a b q w ∙ times_zero w (w *ℤ orientation a b q) (times_zero w (orientation a b q) line)

-- beside scaled places a point of the plane is the place of its numerators
pub on_scaled : (p : RationalPoint) (a b : Point) → IsOn p a b → IsOn (rational (numerators p)) (scaled a p.w) (scaled b p.w)
on_scaled p a b on = on_place (numerators p) (scaled a p.w) (scaled b p.w) on.on_line on.between_x on.between_y

pub on_unscaled : (p : RationalPoint) (a b : Point) → IsOn (rational (numerators p)) (scaled a p.w) (scaled b p.w) → IsOn p a b
on_unscaled p a b on = record {
  on_line = line_of_place (numerators p) (scaled a p.w) (scaled b p.w) on;
  between_x = across_place (numerators p) (scaled a p.w) (scaled b p.w) on;
  between_y = up_place (numerators p) (scaled a p.w) (scaled b p.w) on;
}

pub inside_scaled : (p : RationalPoint) (a b : Point) → IsInside p a b → IsInside (rational (numerators p)) (scaled a p.w) (scaled b p.w)
inside_scaled p a b inside = (
  on_scaled p a b inside.0,
  (λ at. inside.1 (place_at (numerators p) (scaled a p.w) at)),
  (λ at. inside.2 (place_at (numerators p) (scaled b p.w) at)),
)

-- a place lies where its multiple does
on_place_scaled : (q a b : Point) (w : ℤ) → pos 0 <ℤ w → IsOn (rational (scaled q w)) (scaled a w) (scaled b w) → IsOn (rational q) a b
on_place_scaled q a b w some on =
    on_place q a b (orientation-seen a b q ∙ line)
    (unscaled_between a.x q.x b.x w some (across_place (scaled q w) (scaled a w) (scaled b w) on))
    (unscaled_between a.y q.y b.y w some (up_place (scaled q w) (scaled a w) (scaled b w) on))
  where
    not_none : w ≡ pos 0 → ⊥
    not_none e = omega (arith, ints, e)

    line : orientation a b q ≡ pos 0
    line = zero_factor w (orientation a b q) not_none (zero_factor w (w *ℤ orientation a b q) not_none
        (sym (scaled_side a b q w) ∙ sym (orientation-seen (scaled a w) (scaled b w) (scaled q w)) ∙ line_of_place (scaled q w) (scaled a w) (scaled b w) on))

-- where a point is a place, this lies where the point does
pub place_on : (p : RationalPoint) (q a b : Point) → IsAt p q → IsOn p a b → IsOn (rational q) a b
place_on p q a b at on =
    on_place_scaled q a b p.w p.positive (subst (λ r. IsOn (rational r) (scaled a p.w) (scaled b p.w)) at (on_scaled p a b on))

pub place_inside : (p : RationalPoint) (q a b : Point) → IsAt p q → IsInside p a b → IsInside (rational q) a b
place_inside p q a b at inside = (
  place_on p q a b at inside.0,
  (λ low. inside.1 (at ∙ ap (λ r. scaled r p.w) (place_at q a low))),
  (λ high. inside.2 (at ∙ ap (λ r. scaled r p.w) (place_at q b high))),
)
