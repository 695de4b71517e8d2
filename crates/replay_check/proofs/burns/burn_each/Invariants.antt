use Rattle.std.proofs.Common.{take}
use Rattle.half_edges.specs.Burns.{AreFlagsOf}
use Rattle.replay_check.specs.Burning.{burnt_sides}
use Rattle.replay_check.proofs.burns.burn_each.Given as goal

-- the edges so far are burnt, each once
abbrev pub invariant-loop-burn : goal.invariant-loop-burn
invariant-loop-burn l = AreFlagsOf l.is_burnt (take l.burn-index (burnt_sides l.burns))
