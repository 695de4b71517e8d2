-- The drawing that some events give, as far as they have come.
use Rattle.std.specs.Prelude.{◌≡◌, List, Option, None}
use Rattle.nest_base.specs.Drawing.{Lists}
use Rattle.dxf_entities.specs.declared.error.DrawingError.{DrawingError}
use Rattle.dxf_drawing.specs.Events.{Event}
use Rattle.dxf_drawing.specs.Drawings.{segments_in, names_in, entity_refusal}

-- a drawing so far, or why it's refused
pub record DrawingSoFar : Type 0 where
  pub drawing : Lists
  pub refusal : Option DrawingError

-- it holds the segments, the names and the refusal of these events; behind a refusal the drawing has no meaning
pub record Holds (k : DrawingSoFar) (events : List Event) : Type 0 where
  pub refusal : k.refusal ≡ entity_refusal events
  pub segments : k.refusal ≡ None → k.drawing.segments ≡ segments_in events
  pub names : k.refusal ≡ None → k.drawing.names ≡ names_in events
