use Rattle.micron_decimals.proofs.Nearest.{micron_is_nearest}
use Rattle.micron_decimals.proofs.laws.computed_micron_is_nearest.Goals as goal

pub returns : goal.returns
returns c = micron_is_nearest
