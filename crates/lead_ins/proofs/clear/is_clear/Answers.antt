use Rattle.std.proofs.lemmas.Bool.{iff_false}
use Rattle.lead_ins.proofs.clear.is_clear.Goals as goal

pub returns-then-not-comes_from_within : goal.returns-then-not-comes_from_within
returns-then-not-comes_from_within c = (λ impossible. cc, λ clear. absurd (iff_false c.comes_from_within.ensures c.if-not-comes_from_within.true clear.from_within))

pub returns-then-is_blocked_nearby : goal.returns-then-is_blocked_nearby
returns-then-is_blocked_nearby c = (λ impossible. cc, λ clear. absurd (c.is_blocked_nearby.ensures c.if-is_blocked_nearby.true clear.off_edges))

pub returns : goal.returns
returns c = (
  λ yes. record {
    from_within = c.comes_from_within.ensures.0 c.if-not-comes_from_within.false;
    off_edges = c.is_off_edges.ensures.0 c.if-not-is_off_edges.false;
    off_earlier = c.is_off_leads.ensures.0 yes;
  },
  λ clear. c.is_off_leads.ensures.1 clear.off_earlier,
)
