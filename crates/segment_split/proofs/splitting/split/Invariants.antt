use Rattle.std.proofs.Common.{take}
use Rattle.segment_split.proofs.SplitSoFar.{AreCut}
use Rattle.segment_split.proofs.splitting.split.Given as goal

abbrev pub invariant-loop-index : goal.invariant-loop-index
invariant-loop-index l = AreCut l.segments (take l.index l.segments) l.pieces.edges.items l.pieces.count
