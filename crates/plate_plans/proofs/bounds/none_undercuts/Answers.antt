use Rattle.plate_plans.proofs.Undercut.{none_undercuts, none_undercuts_sum}
use Rattle.plate_plans.proofs.bounds.none_undercuts.Goals as goal

pub returns-clause-each : goal.returns-clause-each
returns-clause-each c = none_undercuts

pub returns-clause-sum : goal.returns-clause-sum
returns-clause-sum c = none_undercuts_sum
