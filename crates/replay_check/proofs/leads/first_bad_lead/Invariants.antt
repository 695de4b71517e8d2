use Rattle.std.proofs.Common.{List}
use Rattle.nest_base.specs.declared.places.Point.{Point}
use Rattle.part_scrap.specs.Naming.{TellsScrap}
use Rattle.replay_check.specs.Leads.{AreLeadsBefore}
use Rattle.replay_check.proofs.LeadsSoFar.{HoldBefore}
use Rattle.replay_check.proofs.leads.first_bad_lead.Given as goal

-- the leads are those of the moves so far, and each that may be a lead-in is one
abbrev pub invariant-loop-i : goal.invariant-loop-i
invariant-loop-i l = record {
  leads : AreLeadsBefore l.graph.edges l.moves l.i l.leads.items;
  hold : (places : List Point) → TellsScrap l.graph.edges places l.faces.faces l.parts.names → HoldBefore l.graph.edges places l.moves l.i;
}
