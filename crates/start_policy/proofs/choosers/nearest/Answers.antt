use Rattle.std.proofs.Common.{arith, ◌≡◌, ◌<◌, ◌+◌, ℤ, ◌<ℤ◌, true, false, to_z, of_z, subst, sym, ap, ◌∙◌, get_or}
use Rattle.std.specs.Int.{w128}
use Rattle.std.specs.Int.Signed.{lt_z}
use Rattle.std.proofs.lemmas.Int.{ints}
use Rattle.std.proofs.lemmas.Option.{slice_get-get_or}
use Rattle.nest_base.proofs.ListReads.{read_below}
use Rattle.start_policy.specs.Choices.{IsNearer, squared_distance}
use Rattle.start_policy.proofs.FirstSites.{IsFirstBelow, nowhere, nearer_chooses, begins_first, stays_first, becomes_first, first_of_all}
use Rattle.start_policy.proofs.choosers.nearest.Goals as goal
use Rattle.start_policy.proofs.choosers.nearest.Goals.{then-distance-least, else-distance-least}

-- a comparison of numbers, told of what they are
nearer : (a b p q : ℤ) → a ≡ p → b ≡ q → lt_z a b ≡ true → p <ℤ q
nearer a b p q a_is b_is less = omega (arith, ints, a_is, b_is, less)

not_nearer : (a b p q : ℤ) → a ≡ p → b ≡ q → lt_z a b ≡ false → p <ℤ q → ⊥
not_nearer a b p q a_is b_is not_less less = omega (arith, ints, a_is, b_is, not_less, less)

pub loop-k-init : goal.loop-k-init
loop-k-init c =
    let s = read_below c.args.sites.now 0 c.requires.some in
    let exact : to_z w128 (of_z w128 c.distance_squared-least.result) ≡ c.distance_squared-least.result = omega (arith, ints) in
    record {
      first = begins_first (IsNearer c.args.last) (nearer_chooses c.args.last) c.args.sites.now s.0 s.1;
      within = c.requires.some;
      up_to = omega (arith, c.requires.some);
      least = exact ∙ c.distance_squared-least.ensures;
    }

pub loop-k-preserved : goal.loop-k-preserved
loop-k-preserved c =
    let sites = c.args.sites.now in
    let here = slice_get-get_or sites c.loop-k.k nowhere c.loop-k-test.true in
    let best = slice_get-get_or sites c.loop-k.first nowhere c.loop-k.invariant.within in
    let exact : to_z w128 (of_z w128 c.distance_squared-distance.result) ≡ c.distance_squared-distance.result = omega (arith, ints) in
    let distance = exact ∙ c.distance_squared-distance.ensures in
    elim c.if-distance-least.branch [
      | then-distance-least w ↦ record {
        first = subst (λ f. IsFirstBelow (IsNearer c.args.last) sites (c.loop-k.k + 1) f) (sym w.first-is)
            (becomes_first (IsNearer c.args.last) (nearer_chooses c.args.last) sites c.loop-k.k c.loop-k.first _ _ c.loop-k.invariant.first best here (nearer _ _ _ _ distance c.loop-k.invariant.least w.if-distance-least.true));
        within = omega (arith, w.first-is, c.loop-k-test.true);
        up_to = omega (arith, c.loop-k-test.true);
        least = w.least-is ∙ distance ∙ ap (λ f. squared_distance (get_or sites f nowhere).at c.args.last) (sym w.first-is);
      }
      | else-distance-least w ↦ record {
        first = subst (λ f. IsFirstBelow (IsNearer c.args.last) sites (c.loop-k.k + 1) f) (sym w.first-is)
            (stays_first (IsNearer c.args.last) sites c.loop-k.k c.loop-k.first _ _ c.loop-k.invariant.first best here (not_nearer _ _ _ _ distance c.loop-k.invariant.least w.if-distance-least.false));
        within = omega (arith, w.first-is, c.loop-k.invariant.within);
        up_to = omega (arith, c.loop-k-test.true);
        least = w.least-is ∙ c.loop-k.invariant.least ∙ ap (λ f. squared_distance (get_or sites f nowhere).at c.args.last) (sym w.first-is);
      }
    ]

pub returns-clause-first : goal.returns-clause-first
returns-clause-first c = first_of_all (IsNearer c.args.last) c.args.sites.now c.loop-k.first
    (subst (λ n. IsFirstBelow (IsNearer c.args.last) c.args.sites.now n c.loop-k.first) (omega (arith, c.loop-k-test.false, c.loop-k.invariant.up_to)) c.loop-k.invariant.first)
