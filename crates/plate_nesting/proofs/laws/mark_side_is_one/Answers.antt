use Rattle.plate_nesting.proofs.Alongs.{mark_side_is_one}
use Rattle.plate_nesting.proofs.laws.mark_side_is_one.Goals as goal

pub returns : goal.returns
returns c = mark_side_is_one
