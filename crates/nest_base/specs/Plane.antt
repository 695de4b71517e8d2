-- Points of the plane, directions, half-edges, and what lies on a segment.
use Rattle.std.specs.Prelude.{◌≡◌, ℤ, pos, ◌+ℤ◌, ◌-ℤ◌, ◌*ℤ◌, ◌≤ℤ◌, ◌<ℤ◌, ◌⊎◌}
use Rattle.nest_base.specs.declared.places.Point.{Point}
use Rattle.nest_base.specs.declared.places.Segment.{Segment}

-- the point x / w, y / w of the plane
pub record RationalPoint : Type 0 where
  pub x : ℤ
  pub y : ℤ
  pub w : ℤ
  pub positive : pos 0 <ℤ w

-- a place, as such a point
abbrev pub rational : Point → RationalPoint
rational q = record { x = q.x; y = q.y; w = pos 1; positive = record { lt = tt } }

-- the place q with its coordinates times w
abbrev pub scaled : Point → ℤ → Point
scaled q w = record { x = q.x *ℤ w; y = q.y *ℤ w }

abbrev pub numerators : RationalPoint → Point
numerators p = record { x = p.x; y = p.y }

-- p is the place q
abbrev pub IsAt : RationalPoint → Point → Type 0
IsAt p q = numerators p ≡ scaled q p.w

-- the direction from a to b
abbrev pub direction : Point → Point → Point
direction a b = record { x = b.x -ℤ a.x; y = b.y -ℤ a.y }

-- the cross product of two directions
abbrev pub cross_product : Point → Point → ℤ
cross_product a b = (a.x *ℤ b.y) -ℤ (a.y *ℤ b.x)

abbrev pub dot_product : Point → Point → ℤ
dot_product a b = (a.x *ℤ b.x) +ℤ (a.y *ℤ b.y)

-- m lies between a and b, whichever of the two is less
abbrev pub IsBetween : ℤ → ℤ → ℤ → Type 0
IsBetween a m b = ((a ≤ℤ m) × (m ≤ℤ b)) ⊎ ((b ≤ℤ m) × (m ≤ℤ a))

-- p lies on the segment from a to b, ends included; all is compared after multiplying by w
pub record IsOn (p : RationalPoint) (a b : Point) : Type 0 where
  pub on_line : cross_product (direction (numerators p) (scaled a p.w)) (direction (numerators p) (scaled b p.w)) ≡ pos 0
  pub between_x : IsBetween (a.x *ℤ p.w) p.x (b.x *ℤ p.w)
  pub between_y : IsBetween (a.y *ℤ p.w) p.y (b.y *ℤ p.w)

-- two segments have p in common
abbrev pub MeetIn : Segment → Segment → RationalPoint → Type 0
MeetIn s t p = IsOn p s.a s.b × IsOn p t.a t.b

-- p is an end of s
abbrev pub IsEndAt : Segment → RationalPoint → Type 0
IsEndAt s p = IsAt p s.a ⊎ IsAt p s.b

-- two segments share nothing, or one point that is an end of both
abbrev pub MeetAtEndsOnly : Segment → Segment → Type 0
MeetAtEndsOnly s t = (p : RationalPoint) → MeetIn s t p → IsEndAt s p × IsEndAt t p

-- a half-edge: an edge, and the direction in which it is followed
pub record HalfEdge : Type 0 where
  pub from : Point
  pub to : Point

-- the same edge followed the other way
abbrev pub twin : HalfEdge → HalfEdge
twin h = record { from = h.to; to = h.from }

abbrev pub heading : HalfEdge → Point
heading h = direction h.from h.to
