use Rattle.replay_check.proofs.ReachedFaces.{IsScanned}
use Rattle.replay_check.proofs.detached.last_cut.Given as goal

abbrev pub invariant-loop-burn : goal.invariant-loop-burn
invariant-loop-burn l = IsScanned l.faces.faces l.faces.count l.burns l.burn-iterator.iter.rest.now l.is_reached.items
