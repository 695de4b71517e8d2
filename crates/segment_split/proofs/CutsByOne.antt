-- At which places one segment cuts another.
use Rattle.std.proofs.Common.{◌≡◌, ◌⊎◌, ◌↔◌, inl, inr}
use Rattle.nest_base.specs.declared.places.Point.{Point}
use Rattle.nest_base.specs.declared.places.Segment.{Segment}
use Rattle.nest_base.specs.Plane.{RationalPoint, rational, MeetIn}
use Rattle.plate_edges.proofs.ApartEdges.{end_is_on}
use Rattle.plate_edges.specs.Cuts.{IsParallel}
use Rattle.segment_split.specs.CutPoints.{IsCutBy, IsPlaceOn}
use Rattle.segment_split.specs.Meetings.{IsMeeting}
use Rattle.segment_split.specs.declared.meet.Meeting.TheVariants.{At}
use Rattle.segment_split.proofs.Meetings.{meeting_at_is_only}

-- a place at which t cuts s is a common point of the two
pub cut_is_shared : (s t : Segment) (q : Point) → IsCutBy s t q → MeetIn s t (rational q)
cut_is_shared s t q (on, inl end) = (on, end_is_on t q end)
cut_is_shared s t q (on, inr (turned, meet)) = meet

-- so segments without common points cut nothing
pub apart_cuts_none : (s t : Segment) → ((p : RationalPoint) → MeetIn s t p → ⊥) → (q : Point) → IsCutBy s t q → ⊥
apart_cuts_none s t apart q cut = apart (rational q) (cut_is_shared s t q cut)

-- where the two are parallel, t cuts s at its ends that lie on s
pub parallel_cut : (s t : Segment) → IsParallel s t → (q : Point) → IsCutBy s t q ↔ (IsPlaceOn s t.a q ⊎ IsPlaceOn s t.b q)
parallel_cut s t along q = (to, from)
  where
    to : IsCutBy s t q → IsPlaceOn s t.a q ⊎ IsPlaceOn s t.b q
    to (on, inl (inl e)) = inl (e, on)
    to (on, inl (inr e)) = inr (e, on)
    to (on, inr (turned, meet)) = absurd (turned along)

    from : IsPlaceOn s t.a q ⊎ IsPlaceOn s t.b q → IsCutBy s t q
    from (inl (e, on)) = (on, inl (inl e))
    from (inr (e, on)) = (on, inl (inr e))

-- where the two aren't parallel and meet at a place, that one cuts
pub meeting_is_cut : (s t : Segment) (p : Point) → IsMeeting (At p) s t → IsCutBy s t p
meeting_is_cut s t p (turned, meet) = (meet.0, inr (turned, meet))

-- and no other
pub cut_is_meeting : (s t : Segment) (p : Point) → IsMeeting (At p) s t → (q : Point) → IsCutBy s t q → p ≡ q
cut_is_meeting s t p at q cut = meeting_at_is_only s t p q at (cut_is_shared s t q cut)
