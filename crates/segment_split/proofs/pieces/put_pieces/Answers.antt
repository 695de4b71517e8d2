use Rattle.std.proofs.Common.{arith, ◌∙◌}
use Rattle.segment_split.proofs.Neighbours.{piece_pushed}
use Rattle.segment_split.proofs.pieces.put_pieces.Goals as goal

pub loop-k-preserved : goal.loop-k-preserved
loop-k-preserved c = c.in_ok-push.ensures.items ∙ piece_pushed c.args.edges.now.items c.loop-k.edges.items c.args.places.now c.loop-k.k _ _ (omega arith) c.loop-k-test.true c.loop-k.invariant
