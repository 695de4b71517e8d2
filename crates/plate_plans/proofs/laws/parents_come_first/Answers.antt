use Rattle.plate_plans.proofs.Places.{parents_come_first}
use Rattle.plate_plans.proofs.laws.parents_come_first.Goals as goal

pub returns : goal.returns
returns c = parents_come_first
