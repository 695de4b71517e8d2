use Rattle.plate_nesting.proofs.Seen.{something_is_seen}
use Rattle.plate_nesting.proofs.laws.something_is_seen.Goals as goal

pub returns : goal.returns
returns c = something_is_seen
