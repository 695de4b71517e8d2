use Rattle.dxf_groups.proofs.Growth.{pairs_that_came_stay}
use Rattle.dxf_groups.proofs.laws.pairs_stay.Goals as goal

pub returns : goal.returns
returns c = pairs_that_came_stay
