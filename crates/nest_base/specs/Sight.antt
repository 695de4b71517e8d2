-- What a ray that goes west from a place, just above its height, meets.
use Rattle.std.specs.Prelude.{◌≡◌, ℤ, ◌+ℤ◌, ◌-ℤ◌, ◌*ℤ◌, ◌≤ℤ◌, ◌<ℤ◌, ◌⊎◌}
use Rattle.nest_base.specs.declared.places.Point.{Point}
use Rattle.nest_base.specs.declared.places.Edge.{Edge}
use Rattle.nest_base.specs.Plane.{HalfEdge, direction, heading}
use Rattle.nest_base.specs.Turn.{TurnsLeft}

-- the edge of d is met from p, and d is its half-edge that goes down: its lower end is at or below p's height, its upper end
-- strictly above it, and p lies strictly east of its line, which is on the left of d
pub record IsMet (p : Point) (d : HalfEdge) : Type 0 where
  pub lower_end : d.to.y ≤ℤ p.y
  pub upper_end : p.y <ℤ d.from.y
  pub is_east : TurnsLeft (heading d) (direction d.from p)

-- d is the half-edge of e that goes down
pub record GoesDown (e : Edge) (d : HalfEdge) : Type 0 where
  pub one_of_two : (d ≡ record { from = e.low; to = e.high }) ⊎ (d ≡ record { from = e.high; to = e.low })
  pub down : d.to.y <ℤ d.from.y

-- how far d goes down
abbrev pub fall : HalfEdge → ℤ
fall d = d.from.y -ℤ d.to.y

-- how far it goes west meanwhile
abbrev pub drift : HalfEdge → ℤ
drift d = d.from.x -ℤ d.to.x

-- x at the height h on the line of d, times `fall d`
abbrev pub x_at : ℤ → HalfEdge → ℤ
x_at h d = (d.to.x *ℤ fall d) +ℤ (drift d *ℤ (h -ℤ d.to.y))

-- at the height h, d is further east than e
abbrev pub IsFurtherEast : ℤ → HalfEdge → HalfEdge → Type 0
IsFurtherEast h d e = (x_at h e *ℤ fall d) <ℤ (x_at h d *ℤ fall e)

-- at the height h both have one x, and just above it d is further east than e
abbrev pub IsFurtherEastAbove : ℤ → HalfEdge → HalfEdge → Type 0
IsFurtherEastAbove h d e = ((x_at h e *ℤ fall d) ≡ (x_at h d *ℤ fall e)) × ((drift e *ℤ fall d) <ℤ (drift d *ℤ fall e))

-- of two edges that are met from p, d is the nearer one
abbrev pub IsNearer : Point → HalfEdge → HalfEdge → Type 0
IsNearer p d e = IsFurtherEast p.y d e ⊎ IsFurtherEastAbove p.y d e
