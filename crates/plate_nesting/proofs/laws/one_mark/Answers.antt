use Rattle.plate_nesting.proofs.Marks.{one_mark}
use Rattle.plate_nesting.proofs.laws.one_mark.Goals as goal

pub returns : goal.returns
returns c = one_mark
