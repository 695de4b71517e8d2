-- The places at which one segment cuts another, and why the cut points of a segment aren't told.
use Rattle.std.specs.Prelude.{◌≡◌, ℕ, ◌+◌, ◌≤◌, ◌⊎◌, ◌↔◌, List, length, All, Contains, Some, slice_get, take, ⊤}
use Rattle.nest_base.specs.declared.places.Point.{Point}
use Rattle.nest_base.specs.declared.places.Segment.{Segment}
use Rattle.nest_base.specs.Plane.{rational, IsOn, MeetIn}
use Rattle.plate_edges.specs.Cuts.{IsParallel, CrossesOffLattice}
use Rattle.segment_split.specs.Meetings.{CrossesNear}
use Rattle.segment_split.specs.declared.cuts.CutError.{CutError}
use Rattle.segment_split.specs.declared.cuts.CutError.TheVariants.{OffLattice, OutOfMemory}

-- q lies on s, and is an end of t, or the common point of the two where they aren't parallel
abbrev pub IsCutBy : Segment → Segment → Point → Type 0
IsCutBy s t q = IsOn (rational q) s.a s.b × (((t.a ≡ q) ⊎ (t.b ≡ q)) ⊎ ((IsParallel s t → ⊥) × MeetIn s t (rational q)))

-- q is p, and lies on s
abbrev pub IsPlaceOn : Segment → Point → Point → Type 0
IsPlaceOn s p q = (p ≡ q) × IsOn (rational q) s.a s.b

-- `after` has the places of `before` and those with P, and no others; it is longer by n at most
pub record AddsPlaces (P : Point → Type 0) (n : ℕ) (before after : List Point) : Type 0 where
  pub are_all : (q : Point) → Contains after q ↔ (Contains before q ⊎ P q)
  pub few : length after ≤ length before + n

-- the first of the segments that s crosses off the lattice is the one at this index, near this place
pub record CrossesFirst (segments : List Segment) (s : Segment) (other : ℕ) (place : Point) : Type 0 where
  pub segment : Segment
  pub found : slice_get segments other ≡ Some segment
  pub crosses : CrossesNear s segment place
  pub first : All (λ t. CrossesOffLattice s t → ⊥) (take other segments)

-- the reason holds of s among the segments, but for want of memory
abbrev pub IsCutRefusal : CutError → List Segment → Segment → Type 0
IsCutRefusal (OffLattice other place) segments s = CrossesFirst segments s other place
IsCutRefusal OutOfMemory segments s = ⊤
