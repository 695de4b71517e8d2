use Rattle.plate_sides.proofs.Sixteen.{steps_tell_turns}
use Rattle.plate_sides.proofs.laws.angles_of_sixteen_directions.Goals as goal

pub returns-clause-turns : goal.returns-clause-turns
returns-clause-turns c = steps_tell_turns
