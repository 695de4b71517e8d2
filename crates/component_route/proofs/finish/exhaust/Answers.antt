use Rattle.std.proofs.Common.{arith, ◌≡◌, [], ◌∙◌, sym, ap, subst, ◌≢◌, ◌<◌, ℕ, refl}
use Rattle.rotation_systems.specs.RotationSystem.{IsRotationSystem}
use Rattle.half_edges.specs.Graph.{Graph, rotations_of, origin_of}
use Rattle.cover_walks.specs.Walks.{IsExhausted}
use Rattle.cover_walks.specs.Choices.{IsReference}
use Rattle.component_route.specs.Courses.{order_of}
use Rattle.component_route.specs.States.{WalkHead}
use Rattle.component_route.proofs.WalkSteps.{same_rotation, stack_within, exhausted_at, grows_more, grows_room, reference_still, walk_again, walk_counted, walk_closed, walk_opened}
use Rattle.component_route.proofs.finish.exhaust.Goals as goal
use Rattle.component_route.proofs.finish.exhaust.Goals.{After-walk-last}

pub is_exhausted-requires-clause-rotation : goal.is_exhausted-requires-clause-rotation
is_exhausted-requires-clause-rotation c =
    let (o, start, h, f) = c.requires.known in
    let k = c.walks.invariant.head o start h f in
    let v = origin_of o c.args.reference.left.0 in
    subst IsRotationSystem (sym (same_rotation o start c.args.avoid v v c.walks.route.stack c.walks.graph c.walks.route k)) k.fresh.rotation

pub is_exhausted-requires-clause-side : goal.is_exhausted-requires-clause-side
is_exhausted-requires-clause-side c =
    let (o, start, h, f) = c.requires.known in
    let k = c.walks.invariant.head o start h f in
    let v = origin_of o c.args.reference.left.0 in
    subst (λ q. c.args.reference.left.0 < q.sides) (sym (same_rotation o start c.args.avoid v v c.walks.route.stack c.walks.graph c.walks.route k)) f.left_in

pub walk-last-requires-clause-known : goal.walk-last-requires-clause-known
walk-last-requires-clause-known c =
    let (o, start, h, f) = c.requires.known in
    let v = origin_of o c.args.reference.left.0 in (
      o,
      start,
      v,
      c.walks.route.stack,
      c.walks.invariant.head o start h f,
      reference_still (rotations_of o) start v c.args.reference.left.0 c.args.reference.right.0 c.args.route.now c.walks.route c.walks.invariant.grows f,
    )

-- the end of a walk, where the iteration began with h
walked : (c : After-walk-last) (o : Graph) (start : ℕ) → let v = origin_of o c.args.reference.left.0 in WalkHead o start c.args.avoid v v c.args.route.now.stack c.args.graph.now c.args.route.now →
    IsReference (rotations_of o) start c.args.route.now.stack v c.args.reference.left.0 c.args.reference.right.0 →
    WalkHead o start c.args.avoid v (origin_of o c.walk-last.result.0) c.walks.route.stack c.walk-last.new.graph c.walk-last.new.route × IsExhausted (rotations_of o) (order_of c.walk-last.new.route) (origin_of o c.walk-last.result.0)
walked c o start h f =
    let v = origin_of o c.args.reference.left.0 in
    c.walk-last.ensures.head o start v c.walks.route.stack (c.walks.invariant.head o start h f)
    (reference_still (rotations_of o) start v c.args.reference.left.0 c.args.reference.right.0 c.args.route.now c.walks.route c.walks.invariant.grows f)

-- its last half-edge, and that of the reference, are half-edges of the graph as it is then
last_in : (c : After-walk-last) (o : Graph) (start : ℕ) → let v = origin_of o c.args.reference.left.0 in WalkHead o start c.args.avoid v v c.args.route.now.stack c.args.graph.now c.args.route.now →
    IsReference (rotations_of o) start c.args.route.now.stack v c.args.reference.left.0 c.args.reference.right.0 → rotations_of c.walk-last.new.graph ≡ rotations_of o
last_in c o start h f =
    let v = origin_of o c.args.reference.left.0 in
    same_rotation o start c.args.avoid v (origin_of o c.walk-last.result.0) c.walks.route.stack c.walk-last.new.graph c.walk-last.new.route (walked c o start h f).0

pub walks-init : goal.walks-init
walks-init c = record { head = λ o start h f. h; counted = λ o start vertices most h f b k. k; unbroken = λ e o start h f u. u; grows = ([], refl) }

pub stops_after-requires-clause-first : goal.stops_after-requires-clause-first
stops_after-requires-clause-first c =
    let (o, start, h, f) = c.requires.known in
    subst (λ g. c.args.reference.left.0 < g.sides) (sym (last_in (goal.at.stops_after-requires-clause-first c).After-walk-last o start h f)) f.left_in

pub walks-smaller : goal.walks-smaller
walks-smaller c =
    let (o, start, h, f) = c.requires.known in
    let v = origin_of o c.args.reference.left.0 in
    let w = (walked (goal.at.walks-smaller c).After-walk-last o start h f).0 in
    let below = stack_within o start c.args.avoid v (origin_of o c.walk-last.result.0) c.walks.route.stack c.walk-last.new.graph c.walk-last.new.route w in
    let room = grows_room c.walks.route c.walk-last.new.route c.walk-last.ensures.grows in
    let kept = grows_room c.args.route.now c.walks.route c.walks.invariant.grows in
    omega (arith, below, room, kept, c.walk-last.ensures.longer)

pub walks-preserved : goal.walks-preserved
walks-preserved c =
    let p = (goal.at.walks-preserved c).After-walk-last in
    record {
      head = λ o start h f.
          let v = origin_of o c.args.reference.left.0 in
          let w = walked p o start h f in
          walk_again o start c.args.avoid v (origin_of o c.walk-last.result.0) c.walks.route.stack c.walks.route.stack c.walk-last.new.graph c.walks.graph c.walk-last.new.route c.walks.route
          (c.walks.invariant.head o start h f) w.0 w.1;
      counted = λ o start vertices most h f b k.
          let v = origin_of o c.args.reference.left.0 in
          let w = walked p o start h f in
          let within = subst (λ g. c.walk-last.result.0 < g.sides) (last_in p o start h f) c.walk-last.ensures.within in
          walk_counted o start c.args.avoid v (origin_of o c.walk-last.result.0) c.walks.route.stack c.walk-last.new.graph c.walks.graph c.walk-last.new.route c.walks.route
          (c.walks.invariant.head o start h f) w.0 c.walk-last.ensures.grows w.1 vertices most (b c.args.reference.left.0 f.left_in) (b c.walk-last.result.0 within)
          (c.walks.invariant.counted o start vertices most h f b k);
      unbroken = λ e o start h f u.
          let v = origin_of o c.args.reference.left.0 in
          let w = walked p o start h f in
          let here = last_in p o start h f in
          let closed : origin_of o c.walk-last.result.0 ≡ v =
          sym (ap (λ g. g.from c.walk-last.result.0) here) ∙ (c.stops_after.ensures.closed c.if-stops_after.false e ∙ ap (λ g. g.from c.args.reference.left.0) here) in
          walk_closed o start c.args.avoid v (origin_of o c.walk-last.result.0) c.walks.route.stack c.walk-last.new.graph c.walks.graph c.walk-last.new.route c.walks.route
          (c.walks.invariant.head o start h f) w.0 c.walk-last.ensures.grows closed (c.walks.invariant.unbroken e o start h f u);
      grows = grows_more c.args.route.now c.walks.route c.walk-last.new.route c.walks.invariant.grows c.walk-last.ensures.grows;
    }

pub returns-then-stops_after-clause-opened : goal.returns-then-stops_after-clause-opened
returns-then-stops_after-clause-opened c e o start h f u =
    let p = (goal.at.returns-then-stops_after-clause-opened c).After-walk-last in
    let v = origin_of o c.args.reference.left.0 in
    let w = walked p o start h f in
    let here = last_in p o start h f in
    let apart : v ≢ origin_of o c.walk-last.result.0 = λ q.
    c.stops_after.ensures.apart c.if-stops_after.true (ap (λ g. g.from c.args.reference.left.0) here ∙ (q ∙ sym (ap (λ g. g.from c.walk-last.result.0) here))) in
    walk_opened o start c.args.avoid v c.walk-last.result.0 c.walks.route.stack c.walk-last.new.graph c.walks.graph c.walk-last.new.route c.walks.route
    (c.walks.invariant.head o start h f) w.0 c.walk-last.ensures.grows w.1 (subst (λ g. c.walk-last.result.0 < g.sides) here c.walk-last.ensures.within) apart
    (c.walks.invariant.unbroken (c.stops_after.ensures.until c.if-stops_after.true) o start h f u)

pub returns-then-stops_after-clause-grows : goal.returns-then-stops_after-clause-grows
returns-then-stops_after-clause-grows c = grows_more c.args.route.now c.walks.route c.walk-last.new.route c.walks.invariant.grows c.walk-last.ensures.grows

pub returns-clause-head : goal.returns-clause-head
returns-clause-head c e o start h f =
    let v = origin_of o c.args.reference.left.0 in
    let k = c.walks.invariant.head o start h f in
    (k, exhausted_at o start c.args.avoid v v c.walks.route.stack c.walks.graph c.walks.route k c.args.reference.left.0 k.walking.place (c.walks-test.ensures.yes refl))

pub returns-clause-counted : goal.returns-clause-counted
returns-clause-counted c e = c.walks.invariant.counted
