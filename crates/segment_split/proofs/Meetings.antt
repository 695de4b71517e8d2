-- Where two segments meet: their common point is one, and the same from either of them.
use Rattle.std.proofs.Common.{◌≡◌}
use Rattle.nest_base.specs.declared.places.Point.{Point}
use Rattle.nest_base.specs.declared.places.Segment.{Segment}
use Rattle.nest_base.specs.Plane.{rational, MeetIn, direction}
use Rattle.nest_base.proofs.Directions.{cross_product-turned}
use Rattle.plate_edges.specs.Cuts.{IsParallel, CrossesOffLattice}
use Rattle.segment_meeting.proofs.OnePoint.{one_point, at_place, one_place}
use Rattle.segment_split.specs.declared.meet.Meeting.TheVariants.{At}
use Rattle.segment_split.specs.Meetings.{IsMeeting}

-- the place at which two segments meet is the only place that they share
pub meeting_at_is_only : (s t : Segment) (q r : Point) → IsMeeting (At q) s t → MeetIn s t (rational r) → q ≡ r
meeting_at_is_only s t q r meeting at_r = one_place s t meeting.0 q r meeting.1 at_r

-- segments that cross off the lattice share no place
pub crossing_is_no_place : (s t : Segment) → CrossesOffLattice s t → (q : Point) → MeetIn s t (rational q) → ⊥
crossing_is_no_place s t crosses q at_q = crosses.off_lattice q (at_place crosses.point q (one_point s t crosses.not_parallel crosses.point (rational q) crosses.meet at_q))

-- parallel, and crossing off the lattice, are said of two segments in either order
pub IsParallel-turned : (s t : Segment) → IsParallel s t → IsParallel t s
IsParallel-turned s t line = cross_product-turned (direction s.a s.b) (direction t.a t.b) line

pub CrossesOffLattice-turned : (s t : Segment) → CrossesOffLattice s t → CrossesOffLattice t s
CrossesOffLattice-turned s t crosses = record {
  not_parallel = λ line. crosses.not_parallel (IsParallel-turned t s line);
  point = crosses.point;
  meet = (crosses.meet.1, crosses.meet.0);
  off_lattice = crosses.off_lattice;
}
