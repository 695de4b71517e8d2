use Rattle.std.proofs.Common.{refl}
use Rattle.std.proofs.lemmas.Bool.{iff_false}
use Rattle.std.proofs.lemmas.Option.{slice_get-get_or}
use Rattle.plate_parts.specs.declared.leads.Lead.{Lead}
use Rattle.plate_parts.specs.LeadIns.{TouchesAtMostAt}
use Rattle.lead_ins.proofs.Scans.{holds_of_more, holds_of_all, fails_at}
use Rattle.lead_ins.proofs.clear.is_off_leads.Goals as goal

pub returns-then-not-touches_at_most_at : goal.returns-then-not-touches_at_most_at
returns-then-not-touches_at_most_at c = (
  λ impossible. cc,
  λ each. absurd (fails_at (λ (l : Lead). TouchesAtMostAt c.args.v c.args.q l.from l.to) c.args.leads.now c.loop-lead.lead-index _
      (slice_get-get_or c.args.leads.now c.loop-lead.lead-index _ c.loop-lead-test.true)
      (iff_false c.touches_at_most_at.ensures c.if-not-touches_at_most_at.true) each),
)

pub loop-lead-preserved : goal.loop-lead-preserved
loop-lead-preserved c =
    holds_of_more (λ (l : Lead). TouchesAtMostAt c.args.v c.args.q l.from l.to) c.args.leads.now c.loop-lead.lead-index _
    (slice_get-get_or c.args.leads.now c.loop-lead.lead-index _ c.loop-lead-test.true)
    (c.touches_at_most_at.ensures.0 c.if-not-touches_at_most_at.false) c.loop-lead.invariant

pub returns : goal.returns
returns c = (
  λ yes. holds_of_all (λ (l : Lead). TouchesAtMostAt c.args.v c.args.q l.from l.to) c.args.leads.now c.loop-lead.lead-index c.loop-lead-test.false c.loop-lead.invariant,
  λ each. refl,
)
