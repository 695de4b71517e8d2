use Rattle.code_moves.proofs.WrittenCode.{written_code_burns}
use Rattle.code_moves.proofs.laws.written_code_burns_its_chains.Goals as goal

pub returns : goal.returns
returns c = written_code_burns
