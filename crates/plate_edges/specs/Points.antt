-- The points of the plane that lie on segments and on edges.
use Rattle.std.specs.Prelude.{◌≡◌, ◌⊎◌, List, Contains}
use Rattle.nest_base.specs.declared.places.Point.{Point}
use Rattle.nest_base.specs.declared.places.Segment.{Segment}
use Rattle.nest_base.specs.declared.places.Edge.{Edge}
use Rattle.nest_base.specs.Plane.{RationalPoint, IsAt, IsOn}

-- p lies on one of the segments
abbrev pub IsOnSegments : List Segment → RationalPoint → Type 0
IsOnSegments segments p = (s : Segment) × Contains segments s × IsOn p s.a s.b

-- p lies on one of the edges
abbrev pub IsOnEdges : List Edge → RationalPoint → Type 0
IsOnEdges edges p = (e : Edge) × Contains edges e × IsOn p e.low e.high

-- p is an end of e
abbrev pub IsEndOfEdge : Edge → RationalPoint → Type 0
IsEndOfEdge e p = IsAt p e.low ⊎ IsAt p e.high

-- e and f share nothing, or one point that is an end of both
abbrev pub EdgesMeetAtEndsOnly : Edge → Edge → Type 0
EdgesMeetAtEndsOnly e f = (p : RationalPoint) → IsOn p e.low e.high → IsOn p f.low f.high → IsEndOfEdge e p × IsEndOfEdge f p

-- v is an end of one of the edges
abbrev pub IsSomeVertex : List Edge → Point → Type 0
IsSomeVertex edges v = (e : Edge) × Contains edges e × ((e.low ≡ v) ⊎ (e.high ≡ v))
