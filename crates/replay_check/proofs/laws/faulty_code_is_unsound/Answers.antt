use Rattle.replay_check.proofs.Faults.{unsound}
use Rattle.replay_check.proofs.laws.faulty_code_is_unsound.Goals as goal

pub returns : goal.returns
returns c = unsound
