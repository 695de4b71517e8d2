-- How many odd vertices a component has.
use Rattle.std.specs.Prelude.{◌≡◌, ℕ, List, length}
use Rattle.nest_base.specs.declared.places.Point.{Point}
use Rattle.nest_base.specs.declared.places.Edge.{Edge}
use Rattle.plate_sides.specs.Odd.{AreOddVertices}

-- the component with this mark vertex has n odd vertices
abbrev pub HasOddCount : List Edge → Point → ℕ → Type 0
HasOddCount edges mark n = (odd : List Point) × AreOddVertices edges mark odd × (length odd ≡ n)
