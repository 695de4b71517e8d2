use Rattle.cover_plan.proofs.StartNumbers.{starts_are_told}
use Rattle.cover_plan.proofs.laws.starts_are_told.Goals as goal

pub returns : goal.returns
returns c = starts_are_told
