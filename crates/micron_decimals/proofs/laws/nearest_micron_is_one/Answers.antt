use Rattle.micron_decimals.proofs.Nearest.{nearest_is_computed}
use Rattle.micron_decimals.proofs.laws.nearest_micron_is_one.Goals as goal

pub returns : goal.returns
returns c = nearest_is_computed
