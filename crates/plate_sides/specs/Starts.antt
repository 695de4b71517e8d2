-- Where the cover of a component may start.
use Rattle.std.specs.Prelude.{List}
use Rattle.nest_base.specs.declared.places.Point.{Point}
use Rattle.nest_base.specs.declared.places.Edge.{Edge}
use Rattle.nest_base.specs.Plane.{HalfEdge}
use Rattle.plate_sides.specs.Components.{SameComponent}
use Rattle.plate_sides.specs.Links.{IsOuterSide, IsOuterVertex}
use Rattle.plate_sides.specs.Odd.{IsOdd}

-- some odd vertex of the component with this mark vertex is an outer vertex
abbrev pub HasOddOuter : List Edge → Point → Type 0
HasOddOuter edges mark = (v : Point) × SameComponent edges v mark × IsOdd edges v × IsOuterVertex edges mark v

-- s is an outer side, and leaves an odd vertex where some outer vertex is odd
pub record IsStart (edges : List Edge) (mark : Point) (s : HalfEdge) : Type 0 where
  pub outer : IsOuterSide edges mark s
  pub odd : HasOddOuter edges mark → IsOdd edges s.from
