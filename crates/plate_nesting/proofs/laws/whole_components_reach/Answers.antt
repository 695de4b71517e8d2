use Rattle.plate_nesting.proofs.Reaching.{whole_components_reach}
use Rattle.plate_nesting.proofs.laws.whole_components_reach.Goals as goal

pub returns : goal.returns
returns c = whole_components_reach
