use Rattle.std.proofs.Common.{take}
use Rattle.std.specs.Prelude.{All}
use Rattle.plate_parts.specs.LeadIns.{tried_around}
use Rattle.lead_ins.specs.Corners.{IsClear}
use Rattle.lead_ins.proofs.tries.first_clear.Given as goal

-- from none of the places so far is a lead-in clear
abbrev pub invariant-loop-k : goal.invariant-loop-k
invariant-loop-k l = All (λ q. IsClear l.graph.edges l.earlier l.corner q → ⊥) (take l.k (tried_around l.corner.vertex))
