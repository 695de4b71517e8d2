use Rattle.std.proofs.lemmas.Bool.{iff_false}
use Rattle.lead_ins.proofs.leading.fits_off_edges.Goals as goal

pub returns-then-not-is_in_scrap : goal.returns-then-not-is_in_scrap
returns-then-not-is_in_scrap c = (λ impossible. cc, λ fits. absurd (iff_false c.is_in_scrap.ensures c.if-not-is_in_scrap.true fits.in_scrap))

pub returns-then-not-comes_from_within : goal.returns-then-not-comes_from_within
returns-then-not-comes_from_within c = (λ impossible. cc, λ fits. absurd (iff_false c.comes_from_within.ensures c.if-not-comes_from_within.true fits.from_within))

pub returns : goal.returns
returns c = (
  λ yes. record {
    in_scrap = c.is_in_scrap.ensures.0 c.if-not-is_in_scrap.false;
    from_within = c.comes_from_within.ensures.0 c.if-not-comes_from_within.false;
    off_earlier = c.is_off_leads.ensures.0 yes;
  },
  λ fits. c.is_off_leads.ensures.1 fits.off_earlier,
)
