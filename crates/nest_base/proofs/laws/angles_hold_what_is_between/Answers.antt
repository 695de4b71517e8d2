use Rattle.nest_base.proofs.Angles.{inside-between}
use Rattle.nest_base.proofs.laws.angles_hold_what_is_between.Goals as goal

pub returns : goal.returns
returns c = inside-between
