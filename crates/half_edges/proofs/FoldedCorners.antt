-- Segments with an end in common that fold back on each other.
use Rattle.std.proofs.Common.{◌≡◌, ◌⊎◌, inl, inr}
use Rattle.nest_base.specs.declared.places.Point.{Point}
use Rattle.nest_base.specs.declared.places.Segment.{Segment}
use Rattle.nest_base.specs.Plane.{RationalPoint, IsOn, IsAt, IsEndAt, MeetAtEndsOnly}
use Rattle.nest_base.proofs.Points.{turned_on}
use Rattle.segment_meeting.specs.Folds.{Folds}
use Rattle.segment_meeting.proofs.Folding.{folding}

-- s has the ends o and u, in either order
abbrev pub Joins : Segment → Point → Point → Type 0
Joins s o u = ((s.a ≡ o) × (s.b ≡ u)) ⊎ ((s.b ≡ o) × (s.a ≡ u))

-- a point between o and u lies on a segment that has these ends
on_again : (s : Segment) (o u : Point) (p : RationalPoint) → Joins s o u → IsOn p o u → IsOn p s.a s.b
on_again s o u p (inl j) on = rw (j.0, j.1) on
on_again s o u p (inr j) on = rw (j.0, j.1) (turned_on o u p on)

-- and is no end of it, where it's at neither
no_end : (s : Segment) (o u : Point) (p : RationalPoint) → Joins s o u → (IsAt p o → ⊥) → (IsAt p u → ⊥) → IsEndAt s p → ⊥
no_end s o u p (inl j) near far (inl at) = near (rw j.0 at at)
no_end s o u p (inl j) near far (inr at) = far (rw j.1 at at)
no_end s o u p (inr j) near far (inl at) = far (rw j.1 at at)
no_end s o u p (inr j) near far (inr at) = near (rw j.0 at at)

-- segments that fold back on each other share more than an end
pub folded_corner : (s t : Segment) (o u v : Point) → Joins s o u → Joins t o v → Folds o u v → MeetAtEndsOnly s t → ⊥
folded_corner s t o u v first second fold only =
    let shared = folding o u v fold in
    let p = shared.0 in
    let ends = only p (on_again s o u p first shared.1.first, on_again t o v p second shared.1.second) in
    no_end s o u p first shared.1.not_near shared.1.not_far ends.0
