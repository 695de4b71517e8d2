use Rattle.std.proofs.lemmas.Bool.{iff_false}
use Rattle.plate_edges.proofs.Orders.{IsEdgeBefore-asym}
use Rattle.replay_check.proofs.missed.lesser.Goals as goal

pub returns-then-is_before-clause-first : goal.returns-then-is_before-clause-first
returns-then-is_before-clause-first c =
    let f = c.in-Some.f in
    rw c.in-Some.is (IsEdgeBefore-asym f c.args.e (c.is_before.ensures.0 c.if-is_before.true), λ h. IsEdgeBefore-asym f f h h)

pub returns-clause-first : goal.returns-clause-first
returns-clause-first c =
    let e = c.args.e in
    rw c.in-Some.is ((λ h. IsEdgeBefore-asym e e h h), iff_false c.is_before.ensures c.if-is_before.false)
