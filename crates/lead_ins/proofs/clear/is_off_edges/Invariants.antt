use Rattle.std.proofs.Common.{take}
use Rattle.std.specs.Prelude.{All}
use Rattle.nest_base.specs.declared.places.Edge.{Edge}
use Rattle.plate_parts.specs.LeadIns.{TouchesAtMostAt}
use Rattle.lead_ins.proofs.clear.is_off_edges.Given as goal

-- none of the edges so far is touched
abbrev pub invariant-loop-k : goal.invariant-loop-k
invariant-loop-k l = All (λ (e : Edge). TouchesAtMostAt l.v l.q e.low e.high) (take l.k l.graph.edges)
