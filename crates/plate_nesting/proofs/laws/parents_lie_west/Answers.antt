use Rattle.plate_nesting.proofs.Sights.{parent_is_west}
use Rattle.plate_nesting.proofs.laws.parents_lie_west.Goals as goal

pub returns : goal.returns
returns c = parent_is_west
