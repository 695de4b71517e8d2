use Rattle.std.proofs.Common.{take}
use Rattle.std.specs.Prelude.{All}
use Rattle.plate_parts.specs.declared.leads.Lead.{Lead}
use Rattle.plate_parts.specs.LeadIns.{TouchesAtMostAt}
use Rattle.lead_ins.proofs.clear.is_off_leads.Given as goal

-- none of the lead-ins so far is touched
abbrev pub invariant-loop-lead : goal.invariant-loop-lead
invariant-loop-lead l = All (λ (k : Lead). TouchesAtMostAt l.v l.q k.from k.to) (take l.lead-index l.leads)
