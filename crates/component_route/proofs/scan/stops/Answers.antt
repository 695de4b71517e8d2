use Rattle.std.proofs.Common.{IsTrue, inl, inr, sym, subst, refl}
use Rattle.half_edges.specs.Graph.{rotations_of}
use Rattle.component_route.proofs.Burning.{test_of}
use Rattle.component_route.proofs.scan.stops.Goals as goal

pub returns-then-not-is_burnt-clause-yes : goal.returns-then-not-is_burnt-clause-yes
returns-then-not-is_burnt-clause-yes c e =
    inl (λ t. let b : IsTrue c.is_burnt.result = c.is_burnt.ensures.1 ((test_of c.args.graph.now c.requires.rotation c.args.s.0).0 t) in
    let n = c.if-not-is_burnt.true in cc)

pub returns-clause-yes : goal.returns-clause-yes
returns-clause-yes c e = inr ((c.is_avoided.ensures (rotations_of c.args.graph.now).sides c.requires.side).0 e)

pub returns-clause-no : goal.returns-clause-no
returns-clause-no c e = (
  (test_of c.args.graph.now c.requires.rotation c.args.s.0).1 (c.is_burnt.ensures.0 (subst IsTrue (sym c.if-not-is_burnt.false) refl)),
  (λ q. let t : IsTrue c.is_avoided.result = (c.is_avoided.ensures (rotations_of c.args.graph.now).sides c.requires.side).1 q in cc),
)
