use Rattle.std.proofs.Common.{pos, sym, ap, subst, ◌∙◌}
use Rattle.std.specs.Prelude.{Some}
use Rattle.nest_base.specs.Range.{IsWithin, widest}
use Rattle.lead_ins.proofs.Tried.{way_short, long_place, short_place, away_in_range, long_near, short_near}
use Rattle.lead_ins.proofs.tries.tried_at.Goals as goal

pub away_from-requires-clause-way_near : goal.away_from-requires-clause-way_near
away_from-requires-clause-way_near c = way_short c.args.k _ c.requires.k_within

pub away_from-requires-else-k-lt16-clause-way_near : goal.away_from-requires-else-k-lt16-clause-way_near
away_from-requires-else-k-lt16-clause-way_near c = way_short c.args.k _ c.requires.k_within

pub returns-then-k-lt16-clause-place : goal.returns-then-k-lt16-clause-place
returns-then-k-lt16-clause-place c = long_place c.args.v c.args.k _ c.if-k-lt16.true ∙ ap Some (sym c.away_from.ensures)

pub returns-then-k-lt16-clause-near : goal.returns-then-k-lt16-clause-near
returns-then-k-lt16-clause-near c =
    subst (IsWithin widest) (sym c.away_from.ensures) (away_in_range c.args.v _ (pos 2000) c.requires.v_within (way_short c.args.k _ c.requires.k_within) long_near)

pub returns-else-k-lt16-clause-place : goal.returns-else-k-lt16-clause-place
returns-else-k-lt16-clause-place c = short_place c.args.v c.args.k _ c.if-k-lt16.false c.requires.k_within ∙ ap Some (sym c.away_from-else-k-lt16.ensures)

pub returns-else-k-lt16-clause-near : goal.returns-else-k-lt16-clause-near
returns-else-k-lt16-clause-near c =
    subst (IsWithin widest) (sym c.away_from-else-k-lt16.ensures) (away_in_range c.args.v _ (pos 500) c.requires.v_within (way_short c.args.k _ c.requires.k_within) short_near)
