use Rattle.std.proofs.Common.{◌≡◌, ◌+◌, ℕ, List, [], length}
use Rattle.std.specs.Prelude.{All, IfSome}
use Rattle.nest_base.specs.declared.places.Point.{Point}
use Rattle.nest_base.specs.Range.{IsWithin, IsEdgeWithin, widest}
use Rattle.plate_parts.specs.LeadIns.{AreFirstLeadIns}
use Rattle.part_scrap.specs.Naming.{TellsScrap}
use Rattle.lead_ins.specs.Corners.{IsLeadWithin}
use Rattle.lead_ins.specs.Tries.{lead_reach}
use Rattle.lead_ins.proofs.GivenLeads.{given, firsts_so_far}
use Rattle.lead_ins.proofs.all.lead_all.Given as goal

-- each chain so far has its lead-in, and those are kept
abbrev pub invariant-loop-i : goal.invariant-loop-i
invariant-loop-i l = record {
  first : (places : List Point) → TellsScrap l.graph.edges places l.faces.faces l.parts.names →
      AreFirstLeadIns l.graph.edges places [] (firsts_so_far l.graph l.plan l.i) l.leads.items;
  kept : l.earlier.items ≡ given [] (firsts_so_far l.graph l.plan l.i) l.leads.items;
  within : All (IsLeadWithin widest) l.earlier.items;
  as_many : length l.leads.items ≡ l.i;
  as_many_firsts : length (firsts_so_far l.graph l.plan l.i) ≡ l.i;
  near : (n : ℕ) → All (IsEdgeWithin n) l.graph.edges → All (λ lead. IfSome lead (IsWithin (n + lead_reach))) l.leads.items;
}
