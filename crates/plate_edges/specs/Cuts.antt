-- Where the segments of a drawing are cut.
use Rattle.std.specs.Prelude.{◌≡◌, ◌≢◌, ℤ, pos, ◌+ℤ◌, ◌*ℤ◌, ◌≤ℤ◌, ◌<ℤ◌, ◌⊎◌, List, Contains}
use Rattle.nest_base.specs.declared.places.Point.{Point}
use Rattle.nest_base.specs.declared.places.Segment.{Segment}
use Rattle.nest_base.specs.Plane.{RationalPoint, rational, IsAt, IsOn, MeetIn, cross_product, direction}

-- the two ends of a segment differ
abbrev pub HasLength : Segment → Type 0
HasLength s = s.a ≢ s.b

-- s and t go along parallel lines; a segment without length is parallel to each
abbrev pub IsParallel : Segment → Segment → Type 0
IsParallel s t = cross_product (direction s.a s.b) (direction t.a t.b) ≡ pos 0

-- s and t aren't parallel, and the point in which they meet is no place
pub record CrossesOffLattice (s t : Segment) : Type 0 where
  pub not_parallel : IsParallel s t → ⊥
  pub point : RationalPoint
  pub meet : MeetIn s t point
  pub off_lattice : (q : Point) → IsAt point q → ⊥

-- no two of the segments cross off the lattice
abbrev pub NoneCrossesOffLattice : List Segment → Type 0
NoneCrossesOffLattice segments = (s t : Segment) → Contains segments s → Contains segments t → CrossesOffLattice s t → ⊥

-- n is z / w rounded down
abbrev pub IsFloor : ℤ → ℤ → ℤ → Type 0
IsFloor z w n = ((n *ℤ w) ≤ℤ z) × (z <ℤ ((n +ℤ pos 1) *ℤ w))

-- q is p with each coordinate rounded down
pub record IsRoundedDown (p : RationalPoint) (q : Point) : Type 0 where
  pub x : IsFloor p.x p.w q.x
  pub y : IsFloor p.y p.w q.y

-- q is an end of some segment
abbrev pub IsSomeEnd : List Segment → Point → Type 0
IsSomeEnd segments q = (t : Segment) × Contains segments t × ((t.a ≡ q) ⊎ (t.b ≡ q))

-- q is the common point of two segments that aren't parallel
abbrev pub IsSomeMeeting : List Segment → Point → Type 0
IsSomeMeeting segments q =
    (t : Segment) × (u : Segment) × Contains segments t × Contains segments u × (IsParallel t u → ⊥) × MeetIn t u (rational q)

-- a place on s that is an end of some segment, or the common point of two segments that aren't parallel
abbrev pub IsCutPoint : List Segment → Segment → Point → Type 0
IsCutPoint segments s q = IsOn (rational q) s.a s.b × (IsSomeEnd segments q ⊎ IsSomeMeeting segments q)
