use Rattle.plate_plans.proofs.TrailCounts.{trails_are_counted, counts_add_up}
use Rattle.plate_plans.proofs.bounds.trails_are_counted.Goals as goal

pub returns-clause-each : goal.returns-clause-each
returns-clause-each c = trails_are_counted

pub returns-clause-sum : goal.returns-clause-sum
returns-clause-sum c = counts_add_up
