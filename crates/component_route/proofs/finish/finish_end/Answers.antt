use Rattle.std.proofs.Common.{ap, sym, subst, refl, IsTrue, Some, []}
use Rattle.rotation_systems.specs.RotationSystem.{to}
use Rattle.half_edges.specs.Graph.{Graph, rotations_of, origin_of}
use Rattle.cover_walks.specs.Walks.{IsExhausted}
use Rattle.cover_walks.specs.Choices.{IsReference}
use Rattle.component_route.specs.Courses.{order_of}
use Rattle.component_route.specs.Scans.{moved_last}
use Rattle.component_route.specs.States.{WalkHead, JustMoved, CountsWithinAt, IsUnbrokenAt}
use Rattle.component_route.proofs.References.{rotation_now, moved_side, twin_side, end_exhausted}
use Rattle.component_route.proofs.MainSteps.{is_moved, moved_head, turned_head, turned_within, turned_unbroken}
use Rattle.component_route.proofs.finish.finish_end.Goals as goal
use Rattle.component_route.proofs.finish.finish_end.Goals.{After-reference_at-reference, Then-is_exhausted}

pub twin-at-requires : goal.twin-at-requires
twin-at-requires c = let (o, h) = c.requires.known in moved_side o c.args.start.0 c.args.side.0 c.args.graph.now c.args.route.now h

pub is_exhausted-requires-clause-rotation : goal.is_exhausted-requires-clause-rotation
is_exhausted-requires-clause-rotation c = let (o, h) = c.requires.known in rotation_now o c.args.start.0 c.args.side.0 c.args.graph.now c.args.route.now h

pub is_exhausted-requires-clause-side : goal.is_exhausted-requires-clause-side
is_exhausted-requires-clause-side c = let (o, h) = c.requires.known in
    twin_side o c.args.start.0 c.args.side.0 c.args.graph.now c.args.route.now h c.twin-at.result.0 c.twin-at.ensures.number

pub reference_at-reference-requires-clause-known : goal.reference_at-reference-requires-clause-known
reference_at-reference-requires-clause-known c = let (o, h) = c.requires.known in (o, c.args.side.0, h, ap (origin_of o) c.twin-at.ensures.number)

pub reference_at-reference-requires-clause-side : goal.reference_at-reference-requires-clause-side
reference_at-reference-requires-clause-side c = let (o, h) = c.requires.known in
    twin_side o c.args.start.0 c.args.side.0 c.args.graph.now c.args.route.now h c.twin-at.result.0 c.twin-at.ensures.number

-- the reference for walks from the vertex to which the half-edge leads
reference : (c : After-reference_at-reference) (o : Graph) → JustMoved o c.args.start.0 c.args.side.0 c.args.graph.now c.args.route.now →
    IsReference (rotations_of o) c.args.start.0 c.args.route.now.stack (to (rotations_of o) c.args.side.0) c.reference_at-reference.result.left.0 c.reference_at-reference.result.right.0
reference c o h = c.reference_at-reference.ensures o c.args.side.0 h (ap (origin_of o) c.twin-at.ensures.number)

-- what stands before the walks
before : (c : After-reference_at-reference) (o : Graph) → JustMoved o c.args.start.0 c.args.side.0 c.args.graph.now c.args.route.now →
    let v = origin_of o c.reference_at-reference.result.left.0 in
    WalkHead o c.args.start.0 (Some c.twin-at.result) v v c.args.route.now.stack c.args.graph.now c.args.route.now
    × IsReference (rotations_of o) c.args.start.0 c.args.route.now.stack v c.reference_at-reference.result.left.0 c.reference_at-reference.result.right.0
before c o h =
    let f = reference c o h in (
      moved_head o c.args.start.0 c.args.side.0 c.args.graph.now c.args.route.now h c.twin-at.result c.twin-at.ensures.number (origin_of o c.reference_at-reference.result.left.0) f.left_at,
      subst (λ v. IsReference (rotations_of o) c.args.start.0 c.args.route.now.stack v c.reference_at-reference.result.left.0 c.reference_at-reference.result.right.0) (sym f.left_at) f,
    )

pub exhaust-requires : goal.exhaust-requires
exhaust-requires c = let (o, h) = c.requires.known in
    let b = before (goal.at.exhaust-requires c).After-reference_at-reference o h in
    record { known = (o, c.args.start.0, b.0, b.1) }

-- all is unbroken before the walks
unbroken : (c : After-reference_at-reference) (o : Graph) → JustMoved o c.args.start.0 c.args.side.0 c.args.graph.now c.args.route.now →
    IsUnbrokenAt (rotations_of o) c.args.side.0 (to (rotations_of o) c.args.side.0) c.args.route.now →
    IsUnbrokenAt (rotations_of o) (moved_last (rotations_of o) (Some c.twin-at.result)) (origin_of o c.reference_at-reference.result.left.0) c.args.route.now
unbroken c o h u =
    subst (λ v. IsUnbrokenAt (rotations_of o) (moved_last (rotations_of o) (Some c.twin-at.result)) v c.args.route.now) (sym (reference c o h).left_at)
    (subst (λ m. IsUnbrokenAt (rotations_of o) m (to (rotations_of o) c.args.side.0) c.args.route.now)
    (sym (is_moved o c.args.start.0 c.args.side.0 c.args.graph.now c.args.route.now h c.twin-at.result c.twin-at.ensures.number)) u)

pub returns-clause-head : goal.returns-clause-head
returns-clause-head c e o h =
    let p = (goal.at.returns-clause-head c).After-reference_at-reference in
    let b = before p o h in
    let w = c.exhaust.ensures.head e o c.args.start.0 b.0 b.1 in
    turned_head o c.args.start.0 c.args.side.0 c.args.graph.now c.args.route.now h c.twin-at.result c.twin-at.ensures.number
    (origin_of o c.reference_at-reference.result.left.0) (reference p o h).left_at c.exhaust.new.graph c.exhaust.new.route c.exhaust.ensures.grows w.0 w.1

pub returns-clause-within : goal.returns-clause-within
returns-clause-within c e o vertices most h below k =
    let p = (goal.at.returns-clause-within c).After-reference_at-reference in
    let v = origin_of o c.reference_at-reference.result.left.0 in
    let at = (reference p o h).left_at in
    let b = before p o h in
    let w = c.exhaust.ensures.head e o c.args.start.0 b.0 b.1 in
    turned_within o c.args.start.0 c.args.side.0 c.args.graph.now c.args.route.now h v at c.exhaust.new.graph c.exhaust.new.route c.exhaust.ensures.grows w.0.walking.laid w.1 vertices most
    (c.exhaust.ensures.counted e o c.args.start.0 vertices most b.0 b.1 below
    (subst (λ u. CountsWithinAt o c.args.start.0 vertices most u c.args.route.now) (sym at) k))

pub returns-clause-unbroken : goal.returns-clause-unbroken
returns-clause-unbroken c e is o h u =
    let p = (goal.at.returns-clause-unbroken c).After-reference_at-reference in
    let v = origin_of o c.reference_at-reference.result.left.0 in
    let at = (reference p o h).left_at in
    let b = before p o h in
    let w = c.exhaust.ensures.head e o c.args.start.0 b.0 b.1 in
    turned_unbroken o c.args.start.0 c.args.side.0 c.args.graph.now c.args.route.now h v at c.exhaust.new.graph c.exhaust.new.route c.exhaust.ensures.grows
    w.0.walking.laid w.1 (moved_last (rotations_of o) (Some c.twin-at.result)) (c.exhaust.ensures.unbroken e is o c.args.start.0 b.0 b.1 (unbroken p o h u))

pub returns-clause-opened : goal.returns-clause-opened
returns-clause-opened c e o h u =
    let p = (goal.at.returns-clause-opened c).After-reference_at-reference in
    let b = before p o h in
    record {
      avoid = Some c.twin-at.result;
      vertex = origin_of o c.reference_at-reference.result.left.0;
      opened = c.exhaust.ensures.opened e o c.args.start.0 b.0 b.1 (unbroken p o h u);
    }

-- the vertex was exhausted before
still : (c : Then-is_exhausted) (o : Graph) → JustMoved o c.args.start.0 c.args.side.0 c.args.graph.now c.args.route.now →
    WalkHead o c.args.start.0 (Some c.twin-at.result) (to (rotations_of o) c.args.side.0) (to (rotations_of o) c.args.side.0) c.args.route.now.stack c.args.graph.now c.args.route.now
    × IsExhausted (rotations_of o) (order_of c.args.route.now) (to (rotations_of o) c.args.side.0)
still c o h =
    let yes : IsTrue c.is_exhausted.result = subst IsTrue (sym c.if-is_exhausted.true) refl in (
      moved_head o c.args.start.0 c.args.side.0 c.args.graph.now c.args.route.now h c.twin-at.result c.twin-at.ensures.number (to (rotations_of o) c.args.side.0) refl,
      end_exhausted o c.args.start.0 c.args.side.0 c.args.graph.now c.args.route.now h c.twin-at.result.0 c.twin-at.ensures.number (c.is_exhausted.ensures.yes yes),
    )

pub returns-then-is_exhausted-clause-head : goal.returns-then-is_exhausted-clause-head
returns-then-is_exhausted-clause-head c e o h =
    let k = still (goal.at.returns-then-is_exhausted-clause-head c).Then-is_exhausted o h in
    turned_head o c.args.start.0 c.args.side.0 c.args.graph.now c.args.route.now h c.twin-at.result c.twin-at.ensures.number
    (to (rotations_of o) c.args.side.0) refl c.args.graph.now c.args.route.now ([], refl) k.0 k.1

pub returns-then-is_exhausted-clause-within : goal.returns-then-is_exhausted-clause-within
returns-then-is_exhausted-clause-within c e o vertices most h below k =
    let s = still (goal.at.returns-then-is_exhausted-clause-within c).Then-is_exhausted o h in
    turned_within o c.args.start.0 c.args.side.0 c.args.graph.now c.args.route.now h (to (rotations_of o) c.args.side.0) refl c.args.graph.now c.args.route.now ([], refl)
    s.0.walking.laid s.1 vertices most k

pub returns-then-is_exhausted-clause-unbroken : goal.returns-then-is_exhausted-clause-unbroken
returns-then-is_exhausted-clause-unbroken c e is o h u =
    let s = still (goal.at.returns-then-is_exhausted-clause-unbroken c).Then-is_exhausted o h in
    turned_unbroken o c.args.start.0 c.args.side.0 c.args.graph.now c.args.route.now h (to (rotations_of o) c.args.side.0) refl c.args.graph.now c.args.route.now ([], refl)
    s.0.walking.laid s.1 c.args.side.0 u
