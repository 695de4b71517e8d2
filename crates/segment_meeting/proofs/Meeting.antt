-- Two segments share a point where their boxes aren't apart, and neither lies aside of the other's line.
use Rattle.std.proofs.Common.{arith, ◌≡◌, ℤ, pos, inl, inr, ◌∙◌}
use Rattle.std.proofs.lemmas.Int.{ints, by_lt_z}
use Rattle.nest_base.specs.declared.places.Point.{Point}
use Rattle.nest_base.specs.declared.places.Segment.{Segment}
use Rattle.nest_base.specs.Plane.{RationalPoint, MeetIn}
use Rattle.segment_meeting.specs.Orientation.{orientation, LieBeyond, LieAside, AreBoxesApart}
use Rattle.segment_meeting.proofs.Factors.{same_or_not, same_unless}
use Rattle.segment_meeting.proofs.Crossing.{turn, orientation-first, orientation-second, crossing}
use Rattle.segment_meeting.proofs.Collinear.{AreCollinear, collinear_meet}

-- two equal numbers that don't lie on one side of 0 are 0
both_zero : (f g : ℤ) → (LieBeyond (pos 0) f g → ⊥) → g ≡ f → (f ≡ pos 0) × (g ≡ pos 0)
both_zero f g astride e =
    let zero = same_unless f (pos 0) (λ apart. by_lt_z (pos 0) f
    (λ h. astride (inl (h, omega (arith, ints))))
    (λ h. by_lt_z f (pos 0) (λ g. astride (inr (g, omega (arith, ints)))) (λ g. apart (omega (arith, ints))))) in
    (zero, e ∙ zero)

-- parallel segments neither of which lies aside of the other are on one line
parallel : (a b c d : Point) → turn a b c d ≡ pos 0 → (LieAside a b c d → ⊥) → (LieAside c d a b → ⊥) → AreCollinear a b c d
parallel a b c d e over_first over_second =
    let first = both_zero (orientation a b c) (orientation a b d) over_first (omega (arith, ints, e, orientation-second a b c d)) in
    let second = both_zero (orientation c d a) (orientation c d b) over_second (omega (arith, ints, e, orientation-first a b c d)) in
    record { a_on = second.0; b_on = second.1; c_on = first.0; d_on = first.1 }

pub shared_point : (s t : Segment) → (AreBoxesApart s t → ⊥) → (LieAside s.a s.b t.a t.b → ⊥) → (LieAside t.a t.b s.a s.b → ⊥) → (p : RationalPoint) × MeetIn s t p
shared_point s t boxes first second = elim (same_or_not (turn s.a s.b t.a t.b) (pos 0)) [
  | inl e ↦ collinear_meet s.a s.b t.a t.b (parallel s.a s.b t.a t.b e first second)
      (λ h. boxes (inl (inl h)), λ h. boxes (inl (inr h))) (λ h. boxes (inr (inl h)), λ h. boxes (inr (inr h)))
  | inr apart ↦ crossing s.a s.b t.a t.b apart first second
]
