use Rattle.std.proofs.Common.{take}
use Rattle.face_nesting.proofs.SeenSoFar.{IsNearestOf}
use Rattle.face_nesting.proofs.sights.seen_from.Given as goal

abbrev pub invariant-loop-k : goal.invariant-loop-k
invariant-loop-k g l = IsNearestOf (g.E.EdgeList.edges l.edges) (take l.k (g.E.EdgeList.edges l.edges)) l.p l.nearest
