use Rattle.std.proofs.Common.{take}
use Rattle.std.specs.List.{AllZip}
use Rattle.replay_check.specs.Kinds.{IsKind}
use Rattle.replay_check.proofs.kinds.kinds_of.Given as goal

-- the kinds of the moves so far
abbrev pub invariant-loop-step : goal.invariant-loop-step
invariant-loop-step l = AllZip (IsKind l.graph.edges) (take l.step-index l.moves) l.kinds.items
