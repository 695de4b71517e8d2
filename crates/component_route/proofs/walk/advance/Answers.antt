use Rattle.std.proofs.Common.{sym, subst, refl, ℕ, List}
use Rattle.rotation_systems.specs.RotationSystem.{IsRotationSystem}
use Rattle.half_edges.specs.Graph.{Graph, rotations_of, origin_of}
use Rattle.half_edges.specs.Burns.{IsBurnt}
use Rattle.cover_walks.specs.Choices.{IsChosen, IsReference}
use Rattle.component_route.specs.States.{WalkHead}
use Rattle.component_route.proofs.WalkSteps.{same_rotation, choice_known, pushed_unburnt, room_for, advanced_to}
use Rattle.component_route.proofs.walk.advance.Goals as goal
use Rattle.component_route.proofs.walk.advance.Goals.{After-choose-chosen}

pub choose-chosen-requires-clause-rotation : goal.choose-chosen-requires-clause-rotation
choose-chosen-requires-clause-rotation c =
    let (o, start, v, base, h, f) = c.requires.known in
    subst IsRotationSystem (sym (same_rotation o start c.args.avoid v (origin_of o c.args.reference.left.0) base c.args.graph.now c.args.route.now h)) h.fresh.rotation

pub choose-chosen-requires-clause-known : goal.choose-chosen-requires-clause-known
choose-chosen-requires-clause-known c =
    let (o, start, v, base, h, f) = c.requires.known in
    let z = origin_of o c.args.reference.left.0 in
    let r = c.args.route.now in
    let k = choice_known o start c.args.avoid v z base c.args.graph.now r h c.args.reference.left.0 c.args.reference.right.0 refl c.requires.free f in
    (start, z, r.done, r.stack, k.0, k.1)

-- what was chosen
chosen : (c : After-choose-chosen) (o : Graph) (start v : ℕ) (base : List ℕ) → WalkHead o start c.args.avoid v (origin_of o c.args.reference.left.0) base c.args.graph.now c.args.route.now →
    IsReference (rotations_of o) start c.args.route.now.stack (origin_of o c.args.reference.left.0) c.args.reference.left.0 c.args.reference.right.0 →
    IsChosen (rotations_of c.args.graph.now) start (origin_of o c.args.reference.left.0) c.args.route.now.done c.args.route.now.stack c.choose-chosen.result.0
chosen c o start v base h f =
    let z = origin_of o c.args.reference.left.0 in
    let r = c.args.route.now in
    let k = choice_known o start c.args.avoid v z base c.args.graph.now r h c.args.reference.left.0 c.args.reference.right.0 refl c.requires.free f in
    c.choose-chosen.ensures start z r.done r.stack k.0 k.1

pub twin-side-requires : goal.twin-side-requires
twin-side-requires c =
    let (o, start, v, base, h, f) = c.requires.known in
    (chosen (goal.at.twin-side-requires c).After-choose-chosen o start v base h f).side

pub burn-requires-clause-unburnt : goal.burn-requires-clause-unburnt
burn-requires-clause-unburnt c =
    let (o, start, v, base, h, f) = c.requires.known in
    subst (λ s. IsBurnt c.args.graph.now s → ⊥) (sym c.twin-side.ensures.number)
    (pushed_unburnt o start c.args.avoid v (origin_of o c.args.reference.left.0) base c.args.graph.now c.args.route.now h c.choose-chosen.result.0
    (chosen (goal.at.burn-requires-clause-unburnt c).After-choose-chosen o start v base h f))

pub push-requires : goal.push-requires
push-requires c =
    let (o, start, v, base, h, f) = c.requires.known in
    room_for o start c.args.avoid v (origin_of o c.args.reference.left.0) base c.args.graph.now c.args.route.now h c.choose-chosen.result.0
    (chosen (goal.at.push-requires c).After-choose-chosen o start v base h f)

pub returns-clause-head : goal.returns-clause-head
returns-clause-head c o start v base h f =
    advanced_to o start c.args.avoid v (origin_of o c.args.reference.left.0) base c.args.graph.now c.args.route.now h c.choose-chosen.result.0
    (chosen (goal.at.returns-clause-head c).After-choose-chosen o start v base h f)
    c.twin-side.result.0 c.twin-side.ensures.number c.burn.new.self c.burn.ensures c.push.new.self c.push.ensures
