use Rattle.plate_nesting.proofs.Alongs.{along_is_one}
use Rattle.plate_nesting.proofs.laws.along_is_one.Goals as goal

pub returns : goal.returns
returns c = along_is_one
