use Rattle.std.proofs.Common.{List, length, take}
use Rattle.std.specs.List.{AllZip}
use Rattle.nest_base.specs.declared.places.Edge.{Edge}
use Rattle.replay_check.specs.Kinds.{IsKind}
use Rattle.replay_check.specs.Burning.{AreBurnt}
use Rattle.replay_check.proofs.burns.burns_of.Given as goal

-- what the moves so far burn
abbrev pub invariant-loop-step : goal.invariant-loop-step
invariant-loop-step l = (edges : List Edge) → AllZip (IsKind edges) l.moves l.kinds → AreBurnt edges (take (length l.yielded) l.moves) l.burns.items
