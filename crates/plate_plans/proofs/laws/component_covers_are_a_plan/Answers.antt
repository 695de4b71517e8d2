use Rattle.plate_plans.proofs.Turns.{component_covers_are_plan, component_covers_are_counted}
use Rattle.plate_plans.proofs.laws.component_covers_are_a_plan.Goals as goal

pub returns-clause-plan : goal.returns-clause-plan
returns-clause-plan c = component_covers_are_plan

pub returns-clause-counts : goal.returns-clause-counts
returns-clause-counts c = component_covers_are_counted
