use Rattle.std.proofs.Common.{length}
use Rattle.ngc_meaning.proofs.Reading.{ReadSoFar}
use Rattle.ngc_meaning.proofs.read.read_code.Given as goal

abbrev pub decreases-lines : goal.decreases-lines
decreases-lines l = length l.rest

abbrev pub invariant-lines : goal.invariant-lines
invariant-lines l = ReadSoFar l.bytes l.machine l.moves l.rest
