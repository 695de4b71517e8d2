use Rattle.std.proofs.Common.{arith, ◌≡◌, ◌⊎◌, ◌%◌, ap, sym, ◌∙◌}
use Rattle.std.proofs.lemmas.Bool.Decides.{nat_tests}
use Rattle.nest_base.specs.declared.places.Edge.{Edge}
use Rattle.nest_base.proofs.Selections.{same_count}
use Rattle.pierce_bound.proofs.odd.is_odd.Goals as goal

pub returns-clause-odd : goal.returns-clause-odd
returns-clause-odd c = λ is p at.
    let one : c.degree.result % 2 ≡ 1 = grind (arith, nat_tests) in
    (c.degree.result, c.degree.ensures.edges p at, one)

pub returns-clause-even : goal.returns-clause-even
returns-clause-even c = λ not p at (n, has, odd).
    let same : n ≡ c.degree.result = same_count (λ (e : Edge). (e.low ≡ p) ⊎ (e.high ≡ p)) c.args.graph.now.edges n c.degree.result has (c.degree.ensures.edges p at) in
    let one : c.degree.result % 2 ≡ 1 = ap (λ k. k % 2) (sym same) ∙ odd in
    absurd (grind (arith, nat_tests))
