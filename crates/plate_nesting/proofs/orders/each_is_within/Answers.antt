use Rattle.plate_nesting.proofs.OneOrder.{each_is_within}
use Rattle.plate_nesting.proofs.orders.each_is_within.Goals as goal

pub returns : goal.returns
returns c = each_is_within
