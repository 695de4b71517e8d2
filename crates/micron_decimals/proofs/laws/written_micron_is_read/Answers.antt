use Rattle.micron_decimals.proofs.WrittenNumbers.{written_number}
use Rattle.micron_decimals.proofs.laws.written_micron_is_read.Goals as goal

pub returns : goal.returns
returns c = λ n h. (written_number n h).read
