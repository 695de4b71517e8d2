use Rattle.std.proofs.Common.{arith, ◌≡◌, ◌∷◌, [], sym, ap, subst, ◌<◌, length, ℕ, List, refl}
use Rattle.rotation_systems.specs.RotationSystem.{IsRotationSystem}
use Rattle.half_edges.specs.Graph.{Graph, rotations_of, origin_of}
use Rattle.cover_walks.specs.Choices.{IsReference}
use Rattle.component_route.specs.declared.choice.Reference.{Reference}
use Rattle.component_route.specs.States.{WalkHead}
use Rattle.component_route.proofs.WalkSteps.{same_rotation, stack_within, exhausted_at, next_reference, grows_more, grows_room}
use Rattle.component_route.proofs.walk.walk.Goals as goal
use Rattle.component_route.proofs.walk.walk.Goals.{After-at}

pub is_exhausted-requires-clause-rotation : goal.is_exhausted-requires-clause-rotation
is_exhausted-requires-clause-rotation c =
    let (o, start, v, base, h, f) = c.requires.known in
    let k = c.steps.invariant.head o start v base h f in
    subst IsRotationSystem (sym (same_rotation o start c.args.avoid v (origin_of o c.steps.side.0) base c.steps.graph c.steps.route k)) k.fresh.rotation

-- what stands before a step
before : (c : After-at) (o : Graph) (start v : ℕ) (base : List ℕ) → WalkHead o start c.args.avoid v (origin_of o c.args.reference.left.0) base c.args.graph.now c.args.route.now →
    IsReference (rotations_of o) start c.args.route.now.stack (origin_of o c.args.reference.left.0) c.args.reference.left.0 c.args.reference.right.0 →
    WalkHead o start c.args.avoid v (origin_of o c.at.result.left.0) base c.steps.graph c.steps.route
    × IsReference (rotations_of o) start c.steps.route.stack (origin_of o c.at.result.left.0) c.at.result.left.0 c.at.result.right.0
before c o start v base h f =
    let k = c.steps.invariant.head o start v base h f in
    let within : c.steps.side.0 < (rotations_of o).sides = subst (λ q. c.steps.side.0 < q.sides) (same_rotation o start c.args.avoid v (origin_of o c.steps.side.0) base c.steps.graph c.steps.route k) c.steps.invariant.within in
    subst (λ (q : Reference). WalkHead o start c.args.avoid v (origin_of o q.left.0) base c.steps.graph c.steps.route × IsReference (rotations_of o) start c.steps.route.stack (origin_of o q.left.0) q.left.0 q.right.0)
    (sym c.at.ensures)
    (k, next_reference (rotations_of o) start c.steps.side.0 c.steps.invariant.top.0 c.steps.route.stack within c.steps.invariant.top.1)

pub advance-side-requires-in-steps-clause-known : goal.advance-side-requires-in-steps-clause-known
advance-side-requires-in-steps-clause-known c =
    let (o, start, v, base, h, f) = c.requires.known in
    let b = before (goal.at.advance-side-requires-in-steps-clause-known c).After-at o start v base h f in
    (o, start, v, base, b.0, b.1)

pub steps-init : goal.steps-init
steps-init c = record {
  head = c.advance-side.ensures.head;
  top = (c.args.route.now.stack, ap (λ r. r.stack) c.advance-side.ensures.pushed);
  grows = (c.advance-side.result.0 ∷ [], c.advance-side.ensures.pushed);
  longer = let e : length c.advance-side.new.route.stack ≡ length (c.advance-side.result.0 ∷ c.args.route.now.stack) = ap (λ r. length r.stack) c.advance-side.ensures.pushed in omega arith;
  within = c.advance-side.ensures.within;
}

pub steps-smaller : goal.steps-smaller
steps-smaller c =
    let (o, start, v, base, h, f) = c.requires.known in
    let b = before (goal.at.steps-smaller c).After-at o start v base h f in
    let next = c.advance-side-in-steps.ensures.head o start v base b.0 b.1 in
    let below = stack_within o start c.args.avoid v (origin_of o c.advance-side-in-steps.result.0) base c.advance-side-in-steps.new.graph c.advance-side-in-steps.new.route next in
    let room : c.advance-side-in-steps.new.route.room ≡ c.steps.route.room = ap (λ r. r.room) c.advance-side-in-steps.ensures.pushed in
    let kept = grows_room c.args.route.now c.steps.route c.steps.invariant.grows in
    let more : length c.advance-side-in-steps.new.route.stack ≡ length (c.advance-side-in-steps.result.0 ∷ c.steps.route.stack) = ap (λ r. length r.stack) c.advance-side-in-steps.ensures.pushed in
    omega (arith, below, room, kept, more)

pub steps-preserved : goal.steps-preserved
steps-preserved c = record {
  head = λ o start v base h f.
      let b = before (goal.at.steps-preserved c).After-at o start v base h f in
      c.advance-side-in-steps.ensures.head o start v base b.0 b.1;
  top = (c.steps.route.stack, ap (λ r. r.stack) c.advance-side-in-steps.ensures.pushed);
  grows = grows_more c.args.route.now c.steps.route c.advance-side-in-steps.new.route c.steps.invariant.grows (c.advance-side-in-steps.result.0 ∷ [], c.advance-side-in-steps.ensures.pushed);
  longer =
      let e : length c.advance-side-in-steps.new.route.stack ≡ length (c.advance-side-in-steps.result.0 ∷ c.steps.route.stack) = ap (λ r. length r.stack) c.advance-side-in-steps.ensures.pushed in
      omega (arith, c.steps.invariant.longer);
  within = c.advance-side-in-steps.ensures.within;
}

pub returns-clause-head : goal.returns-clause-head
returns-clause-head c o start v base h f =
    let k = c.steps.invariant.head o start v base h f in
    (k, exhausted_at o start c.args.avoid v (origin_of o c.steps.side.0) base c.steps.graph c.steps.route k c.steps.side.0 k.walking.place (c.steps-test.ensures.yes refl))
