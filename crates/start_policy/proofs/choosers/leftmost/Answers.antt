use Rattle.std.proofs.Common.{arith, ◌≡◌, ◌<◌, ◌+◌, subst, sym}
use Rattle.std.proofs.lemmas.Option.{slice_get-get_or}
use Rattle.nest_base.proofs.ListReads.{read_below}
use Rattle.start_policy.specs.Choices.{IsWestOf}
use Rattle.start_policy.proofs.FirstSites.{IsFirstBelow, nowhere, west_chooses, begins_first, stays_first, becomes_first, first_of_all}
use Rattle.start_policy.proofs.choosers.leftmost.Goals as goal
use Rattle.start_policy.proofs.choosers.leftmost.Goals.{then-is_west_of, else-is_west_of}

pub loop-k-init : goal.loop-k-init
loop-k-init c =
    let s = read_below c.args.sites.now 0 c.requires in
    record {
      first = begins_first IsWestOf west_chooses c.args.sites.now s.0 s.1;
      within = c.requires;
      up_to = omega (arith, c.requires);
    }

pub loop-k-preserved : goal.loop-k-preserved
loop-k-preserved c =
    let sites = c.args.sites.now in
    let here = slice_get-get_or sites c.loop-k.k nowhere c.loop-k-test.true in
    let best = slice_get-get_or sites c.loop-k.first nowhere c.loop-k.invariant.within in
    elim c.if-is_west_of.branch [
      | then-is_west_of w ↦ record {
        first = subst (λ f. IsFirstBelow IsWestOf sites (c.loop-k.k + 1) f) (sym w.first-is)
            (becomes_first IsWestOf west_chooses sites c.loop-k.k c.loop-k.first _ _ c.loop-k.invariant.first best here (c.is_west_of.ensures.0 w.if-is_west_of.true));
        within = omega (arith, w.first-is, c.loop-k-test.true);
        up_to = omega (arith, c.loop-k-test.true);
      }
      | else-is_west_of w ↦ record {
        first = subst (λ f. IsFirstBelow IsWestOf sites (c.loop-k.k + 1) f) (sym w.first-is)
            (stays_first IsWestOf sites c.loop-k.k c.loop-k.first _ _ c.loop-k.invariant.first best here (λ before. absurd (cc (c.is_west_of.ensures.1 before, w.if-is_west_of.false))));
        within = omega (arith, w.first-is, c.loop-k.invariant.within);
        up_to = omega (arith, c.loop-k-test.true);
      }
    ]

pub returns-clause-first : goal.returns-clause-first
returns-clause-first c = first_of_all IsWestOf c.args.sites.now c.loop-k.first
    (subst (λ n. IsFirstBelow IsWestOf c.args.sites.now n c.loop-k.first) (omega (arith, c.loop-k-test.false, c.loop-k.invariant.up_to)) c.loop-k.invariant.first)
