use Rattle.nest_base.proofs.Angles.{angle_cmp-total}
use Rattle.nest_base.proofs.laws.directions_are_in_total_order.Goals as goal

pub returns : goal.returns
returns c = angle_cmp-total
