-- What is seen is one of the half-edges.
use Rattle.std.proofs.Common.{ap}
use Rattle.face_nesting.specs.Numbering.{number_seen}
use Rattle.face_nesting.proofs.numbering.component_seen.Goals as goal

pub from-requires : goal.from-requires
from-requires c = c.requires c.in_ok-seen.seen.0 (ap number_seen c.in_ok-seen.was)
