-- Where the segments and names of a drawing lie.
use Rattle.std.specs.Prelude.{All}
use Rattle.nest_base.specs.declared.drawing.Name.{Name}
use Rattle.nest_base.specs.Drawing.{Lists}
use Rattle.nest_base.specs.Range.{IsWithin, IsSegmentWithin, range}

-- all within the range of a drawing
pub record AreInRange (drawing : Lists) : Type 0 where
  pub segments : All (IsSegmentWithin range) drawing.segments
  pub names : All (λ (name : Name). IsWithin range name.at) drawing.names
