use Rattle.std.proofs.Common.{arith, ◌≡◌, ◌≢◌, ◌-◌, ◌%◌, ◌==◌, ◌∙◌, [], inl, inr, ap, sym, subst, refl}
use Rattle.std.proofs.lemmas.Bool.{eqb-true, eqb-false, not-false, not-true}
use Rattle.rotation_systems.specs.RotationSystem.{degree}
use Rattle.half_edges.specs.Graph.{Graph, rotations_of, origin_of, component_of}
use Rattle.cover_walks.specs.Walks.{is_odd, odd_count}
use Rattle.component_route.specs.Courses.{order_of}
use Rattle.component_route.specs.States.{MainHead, FromRoot, RootWalk, IsUnbroken, HasOpened, component_from}
use Rattle.component_route.proofs.Burning.{one_rotation}
use Rattle.component_route.proofs.Roots.{within_first}
use Rattle.component_route.proofs.Beginnings.{fresh_root, fresh_free, fresh_counted, odd_free, first_closed, odd_after, can_reburn, undone_root, undone_odd, undone_counted}
use Rattle.component_route.proofs.covering.cover_component.Goals as goal
use Rattle.component_route.proofs.covering.cover_component.Goals.{After-degree, After-walk_from_root-last, Then-ne, Else-ne, Then-finish, After-give_up_done}

pub walk_from_root-last-requires-clause-known : goal.walk_from_root-last-requires-clause-known
walk_from_root-last-requires-clause-known c =
    (c.args.graph.now, fresh_root c.args.graph.now c.args.start.0 c.requires.fresh c.args.route.now c.requires.done c.requires.stack c.requires.room)

pub walk_from_root-last-requires-clause-free : goal.walk_from_root-last-requires-clause-free
walk_from_root-last-requires-clause-free c = fresh_free c.args.graph.now c.args.start.0 c.requires.fresh

-- the first walk
heads : (c : After-walk_from_root-last) → MainHead c.args.graph.now c.args.start.0 c.walk_from_root-last.new.graph c.walk_from_root-last.new.route
    × FromRoot c.args.graph.now c.args.start.0 c.walk_from_root-last.new.graph c.walk_from_root-last.new.route
heads c = c.walk_from_root-last.ensures.head c.args.graph.now
    (fresh_root c.args.graph.now c.args.start.0 c.requires.fresh c.args.route.now c.requires.done c.requires.stack c.requires.room)

first : (c : After-walk_from_root-last) → RootWalk c.args.graph.now c.args.start.0 c.walk_from_root-last.result.0 c.args.route.now.stack c.walk_from_root-last.new.route.stack
first c = c.walk_from_root-last.ensures.walked c.args.graph.now
    (fresh_root c.args.graph.now c.args.start.0 c.requires.fresh c.args.route.now c.requires.done c.requires.stack c.requires.room)

degree_is : (c : After-walk_from_root-last) → c.degree.result ≡ degree (rotations_of c.args.graph.now) (origin_of c.args.graph.now c.args.start.0)
degree_is c = c.degree.ensures.sides ∙ ap (degree (rotations_of c.args.graph.now)) c.from-root.ensures.number

here : (c : After-walk_from_root-last) → rotations_of c.walk_from_root-last.new.graph ≡ rotations_of c.args.graph.now
here c = one_rotation c.args.graph.now c.walk_from_root-last.new.graph (order_of c.walk_from_root-last.new.route) (heads c).0.burnt

-- it was open
apart : (c : Then-ne) → rotations_of c.walk_from_root-last.new.graph ≡ rotations_of c.args.graph.now → origin_of c.args.graph.now c.walk_from_root-last.result.0 ≢ origin_of c.args.graph.now c.args.start.0
apart c e q =
    eqb-false c.from.result.0 c.from-root.result.0 (not-true (c.from.result.0 == c.from-root.result.0) (sym c.ne.ensures ∙ c.if-ne.true))
    (c.from.ensures.number ∙ (ap (λ g. g.from c.walk_from_root-last.result.0) e ∙ (q ∙ sym c.from-root.ensures.number)))

-- or closed
at_root : (c : Else-ne) → rotations_of c.walk_from_root-last.new.graph ≡ rotations_of c.args.graph.now → origin_of c.args.graph.now c.walk_from_root-last.result.0 ≡ origin_of c.args.graph.now c.args.start.0
at_root c e =
    let same : c.from.result.0 ≡ c.from-root.result.0 = eqb-true c.from.result.0 c.from-root.result.0 (not-false (c.from.result.0 == c.from-root.result.0) (sym c.ne.ensures ∙ c.if-ne.false)) in
    sym (ap (λ g. g.from c.walk_from_root-last.result.0) e) ∙ (sym c.from.ensures.number ∙ (same ∙ c.from-root.ensures.number))

pub second_walk-requires-clause-known : goal.second_walk-requires-clause-known
second_walk-requires-clause-known c = (c.args.graph.now, (heads (goal.at.second_walk-requires-clause-known c).After-walk_from_root-last).1)

pub finish-requires : goal.finish-requires
finish-requires c = record { known = (c.args.graph.now, (heads (goal.at.finish-requires c).After-walk_from_root-last).0) }

pub second_walk-requires-clause-free : goal.second_walk-requires-clause-free
second_walk-requires-clause-free c =
    let p = goal.at.second_walk-requires-clause-free c in
    let k = heads p.After-walk_from_root-last in
    let even = subst (λ n. n % 2 ≡ 0) (degree_is p.After-walk_from_root-last) c.if-even.true in
    odd_free c.args.graph.now c.args.start.0 c.walk_from_root-last.new.graph c.walk_from_root-last.new.route k.1
    (odd_after c.args.graph.now c.args.start.0 c.walk_from_root-last.result.0 c.args.route.now.stack c.walk_from_root-last.new.route c.requires.fresh c.requires.stack
    (first p.After-walk_from_root-last) k.1.done (apart p.Then-ne (here p.After-walk_from_root-last)) even)

-- all is unbroken after a closed first walk, and the root is even
closed : (p : After-walk_from_root-last) → origin_of p.args.graph.now p.walk_from_root-last.result.0 ≡ origin_of p.args.graph.now p.args.start.0 →
    IsUnbroken (rotations_of p.args.graph.now) p.walk_from_root-last.new.route × (degree (rotations_of p.args.graph.now) (origin_of p.args.graph.now p.args.start.0) % 2 ≡ 0)
closed p at = first_closed p.args.graph.now p.args.start.0 p.walk_from_root-last.result.0 p.args.route.now.stack p.walk_from_root-last.new.route p.requires.fresh p.requires.stack (first p) (heads p).1.done at

pub finish-requires-else-ne : goal.finish-requires-else-ne
finish-requires-else-ne c =
    let w = (goal.at.finish-requires-else-ne c).After-walk_from_root-last in
    record { known = (c.args.graph.now, (heads w).0) }

-- the first open walk has come
came : (c : Then-finish) (o : Graph) → MainHead o c.args.start.0 c.walk_from_root-last.new.graph c.walk_from_root-last.new.route → IsUnbroken (rotations_of o) c.walk_from_root-last.new.route →
    HasOpened o c.args.start.0 c.finish-else-ne.new.graph c.finish-else-ne.new.route
came c o h u = c.finish-else-ne.ensures.opened c.if-finish.true o h u

pub give_up_done-requires : goal.give_up_done-requires
give_up_done-requires c =
    let p = goal.at.give_up_done-requires c in
    let w = p.After-walk_from_root-last in
    can_reburn c.args.graph.now c.args.start.0 c.finish-else-ne.new.graph c.finish-else-ne.new.route
    (came p.Then-finish c.args.graph.now (heads w).0 (closed w (at_root p.Else-ne (here w))).0) c.mark-checkpoint.result c.mark-checkpoint.ensures.count

-- what stands after the undo
undone : (c : After-give_up_done) → HasOpened c.args.graph.now c.args.start.0 c.finish-else-ne.new.graph c.finish-else-ne.new.route →
    degree (rotations_of c.args.graph.now) (origin_of c.args.graph.now c.args.start.0) % 2 ≡ 0 →
    FromRoot c.args.graph.now c.args.start.0 c.give_up_done.new.graph c.give_up_done.new.route
    × (is_odd (rotations_of c.args.graph.now) (order_of c.give_up_done.new.route) (origin_of c.args.graph.now c.args.start.0) ≡ 1)
undone c h even = (
  undone_root c.args.graph.now c.args.start.0 c.finish-else-ne.new.graph c.finish-else-ne.new.route h c.mark-checkpoint.result c.mark-checkpoint.ensures.count
      c.give_up_done.new.graph c.give_up_done.new.route c.give_up_done.ensures.graph c.give_up_done.ensures.route even,
  undone_odd c.args.graph.now c.args.start.0 c.finish-else-ne.new.graph c.finish-else-ne.new.route h c.mark-checkpoint.result c.mark-checkpoint.ensures.count
      c.give_up_done.new.graph c.give_up_done.new.route c.give_up_done.ensures.graph c.give_up_done.ensures.route even,
)

pub second_walk-requires-then-finish-clause-known : goal.second_walk-requires-then-finish-clause-known
second_walk-requires-then-finish-clause-known c =
    let p = goal.at.second_walk-requires-then-finish-clause-known c in
    let w = p.After-walk_from_root-last in
    let k = closed w (at_root p.Else-ne (here w)) in
    (c.args.graph.now, (undone p.After-give_up_done (came p.Then-finish c.args.graph.now (heads w).0 k.0) k.1).0)

pub second_walk-requires-then-finish-clause-free : goal.second_walk-requires-then-finish-clause-free
second_walk-requires-then-finish-clause-free c =
    let p = goal.at.second_walk-requires-then-finish-clause-free c in
    let w = p.After-walk_from_root-last in
    let k = closed w (at_root p.Else-ne (here w)) in
    let u = undone p.After-give_up_done (came p.Then-finish c.args.graph.now (heads w).0 k.0) k.1 in
    odd_free c.args.graph.now c.args.start.0 c.give_up_done.new.graph c.give_up_done.new.route u.0 u.1

pub returns-then-even-clause-main : goal.returns-then-even-clause-main
returns-then-even-clause-main c =
    let w = (goal.at.returns-then-even-clause-main c).After-walk_from_root-last in
    c.second_walk.ensures.head c.args.graph.now (heads w).1

pub returns-then-even-clause-few : goal.returns-then-even-clause-few
returns-then-even-clause-few c vertices b =
    let p = goal.at.returns-then-even-clause-few c in
    let w = p.After-walk_from_root-last in
    let o = c.args.graph.now in
    let k = heads w in
    let f = fresh_root o c.args.start.0 c.requires.fresh c.args.route.now c.requires.done c.requires.stack c.requires.room in
    let even = subst (λ n. n % 2 ≡ 0) (degree_is w) c.if-even.true in
    let odd = odd_after o c.args.start.0 c.walk_from_root-last.result.0 c.args.route.now.stack c.walk_from_root-last.new.route c.requires.fresh c.requires.stack (first w) k.1.done
    (apart p.Then-ne (here w)) even in
    let n = odd_count (rotations_of o) (component_of o) (component_from o c.args.start.0) vertices [] in
    let at_first = fresh_counted o c.args.start.0 c.requires.fresh c.args.route.now c.requires.done c.requires.stack vertices n (omega arith) in
    let all = c.second_walk.ensures.few o vertices n k.1 b odd (c.walk_from_root-last.ensures.counted o vertices n f b at_first) in
    inl (omega (arith, all, even))

pub returns-else-even-clause-main : goal.returns-else-even-clause-main
returns-else-even-clause-main c =
    let w = (goal.at.returns-else-even-clause-main c).After-walk_from_root-last in
    c.finish.ensures.head (c.finish.ensures.done refl) c.args.graph.now (heads w).0

pub returns-else-even-clause-empty : goal.returns-else-even-clause-empty
returns-else-even-clause-empty c = c.finish.ensures.empty (c.finish.ensures.done refl)

pub returns-else-even-clause-few : goal.returns-else-even-clause-few
returns-else-even-clause-few c vertices b =
    let p = goal.at.returns-else-even-clause-few c in
    let w = p.After-walk_from_root-last in
    let o = c.args.graph.now in
    let k = heads w in
    let f = fresh_root o c.args.start.0 c.requires.fresh c.args.route.now c.requires.done c.requires.stack c.requires.room in
    let uneven : c.degree.result % 2 ≡ 0 → ⊥ = c.if-even.false in
    let is : is_odd (rotations_of o) [] (origin_of o c.args.start.0) ≡ 1 = let d = degree_is w in omega (arith, d, uneven) in
    let before : is_odd (rotations_of o) c.args.route.now.stack (origin_of o c.args.start.0) ≡ 1 = subst (λ s. is_odd (rotations_of o) s (origin_of o c.args.start.0) ≡ 1) (sym c.requires.stack) is in
    let n = odd_count (rotations_of o) (component_of o) (component_from o c.args.start.0) vertices [] in
    let at_first = fresh_counted o c.args.start.0 c.requires.fresh c.args.route.now c.requires.done c.requires.stack vertices (n - 1) (omega (arith, is)) in
    let one = within_first o c.args.start.0 c.walk_from_root-last.result.0 c.args.route.now.stack c.walk_from_root-last.new.route c.requires.fresh (first w) k.1.done before vertices (n - 1)
    (c.walk_from_root-last.ensures.counted o vertices (n - 1) f b at_first) in
    let all = c.finish.ensures.within (c.finish.ensures.done refl) o vertices ((n - 1) - 1) k.0 b one.0 in
    inl (omega (arith, all, one.1, is))

pub returns-then-finish-clause-main : goal.returns-then-finish-clause-main
returns-then-finish-clause-main c =
    let p = goal.at.returns-then-finish-clause-main c in
    let w = p.After-walk_from_root-last in
    let k = closed w (at_root p.Else-ne (here w)) in
    c.second_walk-then-finish.ensures.head c.args.graph.now (undone p.After-give_up_done (came p.Then-finish c.args.graph.now (heads w).0 k.0) k.1).0

pub returns-then-finish-clause-few : goal.returns-then-finish-clause-few
returns-then-finish-clause-few c vertices b =
    let p = goal.at.returns-then-finish-clause-few c in
    let w = p.After-walk_from_root-last in
    let o = c.args.graph.now in
    let k = closed w (at_root p.Else-ne (here w)) in
    let h = came p.Then-finish o (heads w).0 k.0 in
    let u = undone p.After-give_up_done h k.1 in
    let n = odd_count (rotations_of o) (component_of o) (component_from o c.args.start.0) vertices [] in
    let all = c.second_walk-then-finish.ensures.few o vertices n u.0 b u.1
    (undone_counted o c.args.start.0 c.finish-else-ne.new.graph c.finish-else-ne.new.route h c.mark-checkpoint.result c.mark-checkpoint.ensures.count
    c.give_up_done.new.graph c.give_up_done.new.route c.give_up_done.ensures.graph c.give_up_done.ensures.route k.1 vertices b) in
    let even = k.1 in
    inl (omega (arith, all, even))

pub returns-else-finish-clause-main : goal.returns-else-finish-clause-main
returns-else-finish-clause-main c =
    let w = (goal.at.returns-else-finish-clause-main c).After-walk_from_root-last in
    c.finish-else-ne.ensures.head c.if-finish.false c.args.graph.now (heads w).0

pub returns-else-finish-clause-few : goal.returns-else-finish-clause-few
returns-else-finish-clause-few c vertices b =
    let p = goal.at.returns-else-finish-clause-few c in
    let w = p.After-walk_from_root-last in
    let k = closed w (at_root p.Else-ne (here w)) in
    let whole = c.finish-else-ne.ensures.unbroken c.if-finish.false refl c.args.graph.now (heads w).0 k.0 in
    let even = k.1 in
    inr (whole.breaks, omega (arith, even))
