use Rattle.std.proofs.Common.{◌≡◌, take}
use Rattle.std.specs.List.{count_by}
use Rattle.code_moves.specs.declared.moves.Move.{Move}
use Rattle.replay_check.proofs.first.pierces.Given as goal

-- so many of the moves so far are fresh
abbrev pub invariant-loop-step : goal.invariant-loop-step
invariant-loop-step l = l.count ≡ count_by (λ (m : Move). m.fresh) (take l.step-index l.moves)
