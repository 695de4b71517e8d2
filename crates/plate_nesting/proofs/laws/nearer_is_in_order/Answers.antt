use Rattle.plate_nesting.proofs.Nearer.{nearer_then}
use Rattle.plate_nesting.proofs.laws.nearer_is_in_order.Goals as goal

pub returns : goal.returns
returns c = nearer_then
