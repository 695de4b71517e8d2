use Rattle.std.proofs.Common.{take}
use Rattle.std.specs.Prelude.{All}
use Rattle.nest_base.specs.declared.places.Edge.{Edge}
use Rattle.replay_check.specs.Kinds.{ShareMorePoints}
use Rattle.replay_check.proofs.kinds.is_along.Given as goal

-- none of the edges so far is followed
abbrev pub invariant-loop-k : goal.invariant-loop-k
invariant-loop-k l = All (λ (e : Edge). ShareMorePoints l.a l.b e.low e.high → ⊥) (take l.k l.graph.edges)
