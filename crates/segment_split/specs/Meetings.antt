-- Where two segments meet.
use Rattle.std.specs.Prelude.{◌≡◌, ℤ, pos, ◌+ℤ◌, ◌-ℤ◌, ◌*ℤ◌, ◌≤ℤ◌, ◌<ℤ◌, ◌<◌, ◌^◌, unsigned_abs}
use Rattle.nest_base.specs.declared.places.Point.{Point}
use Rattle.nest_base.specs.declared.places.Segment.{Segment}
use Rattle.nest_base.specs.Plane.{RationalPoint, rational, MeetIn, cross_product, direction}
use Rattle.plate_edges.specs.Cuts.{IsParallel, CrossesOffLattice, IsRoundedDown}
use Rattle.segment_split.specs.declared.meet.Meeting.{Meeting}
use Rattle.segment_split.specs.declared.meet.Meeting.TheVariants.{Apart, Parallel, At, OffLattice}

-- s and t cross off the lattice, at a point that with each coordinate rounded down is q
pub record CrossesNear (s t : Segment) (q : Point) : Type 0 where
  pub crosses : CrossesOffLattice s t
  pub rounded : IsRoundedDown crosses.point q

-- what each answer says of two segments
abbrev pub IsMeeting : Meeting → Segment → Segment → Type 0
IsMeeting Apart s t = (p : RationalPoint) → MeetIn s t p → ⊥
IsMeeting Parallel s t = IsParallel s t × ((p : RationalPoint) × MeetIn s t p)
IsMeeting (At q) s t = (IsParallel s t → ⊥) × MeetIn s t (rational q)
IsMeeting (OffLattice q) s t = CrossesNear s t q

-- by how much the way along t turns left of that along s
abbrev pub IsTurn : Segment → Segment → ℤ → Type 0
IsTurn s t turn = turn ≡ cross_product (direction s.a s.b) (direction t.a t.b)

-- a fraction from 0 to 1, small enough to compute with it in 128 bits
pub record IsPart (part whole : ℤ) : Type 0 where
  pub positive : pos 0 <ℤ whole
  pub from_zero : pos 0 ≤ℤ part
  pub to_one : part ≤ℤ whole
  pub small : unsigned_abs whole < 2 ^ 66

-- the coordinate at this fraction of the way from one to another, times `whole`
abbrev pub numerator_along : (from to part whole : ℤ) → ℤ
numerator_along from to part whole = (from *ℤ whole) +ℤ ((to -ℤ from) *ℤ part)

-- the point at this fraction of the way along s is a common point of s and t
pub record MeetAlong (s t : Segment) (part whole : ℤ) : Type 0 where
  pub fraction : IsPart part whole
  pub meet : MeetIn s t (record { x = numerator_along s.a.x s.b.x part whole; y = numerator_along s.a.y s.b.y part whole; w = whole; positive = fraction.positive })
