use Rattle.std.proofs.Common.{length}
use Rattle.ngc_meaning.proofs.ReadWords.{WordsSoFar}
use Rattle.ngc_meaning.proofs.block.Block.read.Given as goal

abbrev pub decreases-words : goal.decreases-words
decreases-words l = length l.rest

abbrev pub invariant-words : goal.invariant-words
invariant-words l = WordsSoFar l.text l.rest l.block
