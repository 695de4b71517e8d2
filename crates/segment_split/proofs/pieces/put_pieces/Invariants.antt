use Rattle.std.proofs.Common.{◌≡◌, ◌++◌, take}
use Rattle.segment_split.specs.Pieces.{pieces_between}
use Rattle.segment_split.proofs.pieces.put_pieces.Given as goal

abbrev pub invariant-loop-k : goal.invariant-loop-k
invariant-loop-k l = l.edges.items ≡ l.fn.edges.items ++ pieces_between (take l.k l.places)
