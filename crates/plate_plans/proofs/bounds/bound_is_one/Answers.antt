use Rattle.plate_plans.proofs.OneBound.{bound_is_one, limit_is_one}
use Rattle.plate_plans.proofs.bounds.bound_is_one.Goals as goal

pub returns-clause-bound : goal.returns-clause-bound
returns-clause-bound c = bound_is_one

pub returns-clause-limit : goal.returns-clause-limit
returns-clause-limit c = limit_is_one
