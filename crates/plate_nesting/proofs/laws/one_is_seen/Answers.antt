use Rattle.plate_nesting.proofs.Nearest.{one_is_seen}
use Rattle.plate_nesting.proofs.laws.one_is_seen.Goals as goal

pub returns : goal.returns
returns c = one_is_seen
