use Rattle.std.proofs.Common.{arith, ◌≡◌, ◌∙◌, ap, sym, subst}
use Rattle.rotation_systems.specs.RotationSystem.{to}
use Rattle.half_edges.specs.Graph.{Graph, rotations_of}
use Rattle.component_route.specs.States.{MainHead, JustMoved, CountsWithin, IsUnbroken, IsUnbrokenAt}
use Rattle.component_route.proofs.MainSteps.{weight_within, both_within, just_moved, moved_within, moved_unbroken, moved_weight}
use Rattle.component_route.proofs.WalkSteps.{grows_room, grows_weight}
use Rattle.component_route.proofs.finish.finish.Goals as goal
use Rattle.component_route.proofs.finish.finish.Goals.{In-Some}

pub move_top-requires : goal.move_top-requires
move_top-requires c = let (o, h) = c.requires.known in both_within o c.args.start.0 c.turns.graph c.turns.route (c.turns.invariant.head o h)

-- what stands after the move
moved : (c : In-Some) (o : Graph) → MainHead o c.args.start.0 c.args.graph.now c.args.route.now → JustMoved o c.args.start.0 c.in-Some.side.0 c.turns.graph c.move_top.new.self
moved c o h =
    let k = c.in-Some.ensures.some in
    just_moved o c.args.start.0 c.turns.graph c.turns.route c.in-Some.side.0 k.0 c.move_top.new.self k.1 k.2 (c.turns.invariant.head o h)

-- nothing is broken by it
unbroken : (c : In-Some) (o : Graph) → IsUnbroken (rotations_of o) c.turns.route →
    IsUnbrokenAt (rotations_of o) c.in-Some.side.0 (to (rotations_of o) c.in-Some.side.0) c.move_top.new.self
unbroken c o u =
    let k = c.in-Some.ensures.some in
    moved_unbroken o c.args.start.0 c.turns.graph c.turns.route c.in-Some.side.0 k.0 c.move_top.new.self k.1 k.2 u

pub finish_end-requires : goal.finish_end-requires
finish_end-requires c = let (o, h) = c.requires.known in record { known = (o, moved (goal.at.finish_end-requires c).In-Some o h) }

pub turns-smaller : goal.turns-smaller
turns-smaller c = let (o, h) = c.requires.known in
    let k = c.in-Some.ensures.some in
    let next = c.finish_end.ensures.head c.if-finish_end.false o (moved (goal.at.turns-smaller c).In-Some o h) in
    let below = weight_within o c.args.start.0 c.finish_end.new.graph c.finish_end.new.route next in
    let more = moved_weight o c.args.start.0 c.turns.graph c.turns.route c.in-Some.side.0 k.0 c.move_top.new.self k.1 k.2 in
    let grows = grows_weight c.move_top.new.self c.finish_end.new.route c.finish_end.ensures.grows in
    let room : c.move_top.new.self.room ≡ c.turns.route.room = ap (λ r. r.room) k.2 in
    let kept = grows_room c.move_top.new.self c.finish_end.new.route c.finish_end.ensures.grows in
    omega (arith, below, more, grows, room, kept, c.turns.invariant.room)

pub turns-preserved : goal.turns-preserved
turns-preserved c =
    let p = (goal.at.turns-preserved c).In-Some in
    let k = c.in-Some.ensures.some in
    record {
      head = λ o h. c.finish_end.ensures.head c.if-finish_end.false o (moved p o h);
      within = λ o vertices most h b w. c.finish_end.ensures.within c.if-finish_end.false o vertices most (moved p o h) b
          (moved_within o c.args.start.0 c.turns.graph c.turns.route c.in-Some.side.0 k.0 c.move_top.new.self k.1 k.2 (c.turns.invariant.head o h) vertices most
          (c.turns.invariant.within o vertices most h b w));
      unbroken = λ e o h u. c.finish_end.ensures.unbroken c.if-finish_end.false e o (moved p o h) (unbroken p o (c.turns.invariant.unbroken e o h u));
      room = grows_room c.move_top.new.self c.finish_end.new.route c.finish_end.ensures.grows ∙ (ap (λ r. r.room) k.2 ∙ c.turns.invariant.room);
    }

pub returns-then-finish_end-clause-opened : goal.returns-then-finish_end-clause-opened
returns-then-finish_end-clause-opened c e o h u =
    let p = (goal.at.returns-then-finish_end-clause-opened c).In-Some in
    let is = c.finish_end.ensures.until c.if-finish_end.true in
    c.finish_end.ensures.opened c.if-finish_end.true o (moved p o h) (unbroken p o (c.turns.invariant.unbroken is o h u))

pub returns-then-finish_end-clause-done : goal.returns-then-finish_end-clause-done
returns-then-finish_end-clause-done c e = let is = c.finish_end.ensures.until c.if-finish_end.true in cc

pub returns-then-finish_end-clause-room : goal.returns-then-finish_end-clause-room
returns-then-finish_end-clause-room c =
    grows_room c.move_top.new.self c.finish_end.new.route c.finish_end.ensures.grows ∙ (ap (λ r. r.room) c.in-Some.ensures.some.2 ∙ c.turns.invariant.room)

pub returns-clause-head : goal.returns-clause-head
returns-clause-head c e o h = subst (MainHead o c.args.start.0 c.turns.graph) (sym c.in_default.ensures.none.1) (c.turns.invariant.head o h)

pub returns-clause-within : goal.returns-clause-within
returns-clause-within c e o vertices most h b w =
    subst (CountsWithin o c.args.start.0 vertices most) (sym c.in_default.ensures.none.1) (c.turns.invariant.within o vertices most h b w)

pub returns-clause-unbroken : goal.returns-clause-unbroken
returns-clause-unbroken c e is o h u = subst (IsUnbroken (rotations_of o)) (sym c.in_default.ensures.none.1) (c.turns.invariant.unbroken is o h u)
