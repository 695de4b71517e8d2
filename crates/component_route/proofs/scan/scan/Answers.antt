use Rattle.std.proofs.Common.{ap, ◌∙◌, subst, ◌≤◌, sym}
use Rattle.rotation_systems.specs.RotationSystem.{degree}
use Rattle.half_edges.specs.Graph.{rotations_of, origin_of}
use Rattle.cover_walks.proofs.Scans.{passes_next, passes_no_end}
use Rattle.component_route.specs.Scans.{avoided_of, burnt_in, seen}
use Rattle.component_route.proofs.Seen.{seen_in, seen_at, seen_rotation, seen_degree, seen_free}
use Rattle.component_route.proofs.scan.scan.Goals as goal

pub stops-requires-clause-side : goal.stops-requires-clause-side
stops-requires-clause-side c =
    let x = c.args.graph.now in
    seen_at (rotations_of x) c.requires.rotation c.args.turn (burnt_in x) c.args.after.0 (avoided_of (rotations_of x).sides c.args.avoid) c.loop-i._i c.loop-i.s.0 c.requires.side c.loop-i.invariant

pub returns-then-stops : goal.returns-then-stops
returns-then-stops c = record { steps = c.loop-i._i; passes = c.loop-i.invariant; stops = c.stops.ensures.yes c.if-stops.true }

pub next-s-requires-in-loop-i : goal.next-s-requires-in-loop-i
next-s-requires-in-loop-i c =
    let x = c.args.graph.now in
    seen_at (rotations_of x) c.requires.rotation c.args.turn (burnt_in x) c.args.after.0 (avoided_of (rotations_of x).sides c.args.avoid) c.loop-i._i c.loop-i.s.0 c.requires.side c.loop-i.invariant

pub loop-i-preserved : goal.loop-i-preserved
loop-i-preserved c =
    let x = c.args.graph.now in
    let passed = c.stops.ensures.no c.if-stops.false in
    passes_next (seen c.args.turn (rotations_of x)) (seen_rotation (rotations_of x) c.requires.rotation c.args.turn) (burnt_in x) c.args.after.0 (avoided_of (rotations_of x).sides c.args.avoid)
    (seen_in (rotations_of x) c.args.turn c.args.after.0 c.requires.side) c.loop-i.invariant passed.0 passed.1 c.next-s-in-loop-i.ensures

pub returns : goal.returns
returns c =
    let x = c.args.graph.now in
    let all : degree (rotations_of x) (origin_of x c.args.after.0) ≤ c.loop-i._i = subst (λ n. n ≤ c.loop-i._i) (c.degree-i-end.ensures.sides ∙ ap (degree (rotations_of x)) c.from.ensures.number) c.loop-i-test.false in
    absurd (passes_no_end (seen c.args.turn (rotations_of x)) (seen_rotation (rotations_of x) c.requires.rotation c.args.turn) (burnt_in x) c.args.after.0 (avoided_of (rotations_of x).sides c.args.avoid)
    (seen_in (rotations_of x) c.args.turn c.args.after.0 c.requires.side) c.loop-i.invariant
    (subst (λ n. n ≤ c.loop-i._i) (sym (seen_degree (rotations_of x) c.args.turn c.args.after.0)) all) (seen_free (rotations_of x) c.args.turn (burnt_in x) c.args.after.0 c.requires.free))
