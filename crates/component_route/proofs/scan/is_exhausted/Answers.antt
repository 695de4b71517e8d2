use Rattle.std.proofs.Common.{IsTrue, sym, ap, subst, refl, ◌∙◌, ◌≤◌}
use Rattle.rotation_systems.specs.RotationSystem.{degree}
use Rattle.half_edges.specs.Graph.{rotations_of}
use Rattle.cover_walks.proofs.Scans.{turned_in, turned_next, turned_free, turned_all}
use Rattle.component_route.specs.Scans.{burnt_in}
use Rattle.component_route.proofs.Burning.{test_of}
use Rattle.component_route.proofs.scan.is_exhausted.Goals as goal

pub ccw-at-requires : goal.ccw-at-requires
ccw-at-requires c = turned_in (rotations_of c.args.graph.now) c.requires.rotation (burnt_in c.args.graph.now) c.args.s.0 c.requires.side c.loop-i.invariant

pub returns-then-not-is_burnt-clause-no : goal.returns-then-not-is_burnt-clause-no
returns-then-not-is_burnt-clause-no c e =
    let x = c.args.graph.now in
    turned_free (rotations_of x) c.requires.rotation (burnt_in x) c.args.s.0 c.requires.side c.loop-i.invariant c.ccw-at.ensures.number
    (λ t. let b : IsTrue c.is_burnt.result = c.is_burnt.ensures.1 ((test_of x c.requires.rotation c.ccw-at.result.0).0 t) in
    let n = c.if-not-is_burnt.true in cc)

pub loop-i-preserved : goal.loop-i-preserved
loop-i-preserved c =
    let x = c.args.graph.now in
    turned_next (rotations_of x) c.requires.rotation (burnt_in x) c.args.s.0 c.requires.side c.loop-i.invariant c.ccw-at.ensures.number
    ((test_of x c.requires.rotation c.ccw-at.result.0).1 (c.is_burnt.ensures.0 (subst IsTrue (sym c.if-not-is_burnt.false) refl)))

pub returns-clause-yes : goal.returns-clause-yes
returns-clause-yes c e =
    let x = c.args.graph.now in
    turned_all (rotations_of x) c.requires.rotation (burnt_in x) c.args.s.0 c.requires.side c.loop-i.invariant
    (subst (λ n. n ≤ c.loop-i._i) (c.degree-i-end.ensures.sides ∙ ap (degree (rotations_of x)) c.from.ensures.number) c.loop-i-test.false)
