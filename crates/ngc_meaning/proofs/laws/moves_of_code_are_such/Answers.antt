use Rattle.ngc_meaning.proofs.MovesOfCode.{code_moves}
use Rattle.ngc_meaning.proofs.laws.moves_of_code_are_such.Goals as goal

pub returns : goal.returns
returns c = code_moves
