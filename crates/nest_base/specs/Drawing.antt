-- What a drawing holds.
use Rattle.std.specs.Prelude.{List}
use Rattle.nest_base.specs.declared.places.Segment.{Segment}
use Rattle.nest_base.specs.declared.drawing.Name.{Name}

-- the segments and the names, each in file order
pub record Lists : Type 0 where
  pub segments : List Segment
  pub names : List Name
