use Rattle.plate_nesting.proofs.OneOrder.{burning_order_is_one}
use Rattle.plate_nesting.proofs.orders.burning_order_is_one.Goals as goal

pub returns : goal.returns
returns c = burning_order_is_one
