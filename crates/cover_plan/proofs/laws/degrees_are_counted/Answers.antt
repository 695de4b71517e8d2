use Rattle.cover_plan.proofs.Degrees.{degrees_are_counted, odd_is_told}
use Rattle.cover_plan.proofs.laws.degrees_are_counted.Goals as goal

pub returns-clause-degree : goal.returns-clause-degree
returns-clause-degree c = degrees_are_counted

pub returns-clause-odd : goal.returns-clause-odd
returns-clause-odd c = odd_is_told
