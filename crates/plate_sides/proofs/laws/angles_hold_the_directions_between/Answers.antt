use Rattle.plate_sides.proofs.Sixteen.{angles_hold_places_between}
use Rattle.plate_sides.proofs.laws.angles_hold_the_directions_between.Goals as goal

pub returns : goal.returns
returns c = angles_hold_places_between
