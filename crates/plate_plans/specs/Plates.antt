-- The edges of a drawing and its components.
use Rattle.std.specs.Prelude.{List, All, AllPairs}
use Rattle.nest_base.specs.declared.places.Point.{Point}
use Rattle.nest_base.specs.declared.places.Edge.{Edge}
use Rattle.nest_base.specs.Order.{IsBefore}
use Rattle.plate_edges.specs.Points.{EdgesMeetAtEndsOnly}
use Rattle.plate_sides.specs.Components.{AreMarks}
use Rattle.plate_sides.specs.Nesting.{IsRound, HasMarkSides}

-- what holds of the edges of every drawing, and its mark vertices
pub record IsPlate (edges : List Edge) (marks : List Point) : Type 0 where
  pub ends_in_order : All (λ (e : Edge). IsBefore e.low e.high) edges
  pub apart : AllPairs EdgesMeetAtEndsOnly edges
  pub are_marks : AreMarks edges marks
  pub round : IsRound edges
  pub mark_sides : HasMarkSides edges
