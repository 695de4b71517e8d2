use Rattle.std.proofs.Common.{arith, ◌≡◌, subst, ◌++◌, ◌-◌, refl}
use Rattle.half_edges.specs.Graph.{rotations_of, origin_of}
use Rattle.cover_walks.specs.Walks.{is_odd}
use Rattle.component_route.proofs.Roots.{within_first}
use Rattle.component_route.proofs.covering.second_walk.Goals as goal

pub finish-requires : goal.finish-requires
finish-requires c = let (o, h) = c.requires.known in record { known = (o, (c.walk_from_root.ensures.head o h).0) }

pub returns-clause-head : goal.returns-clause-head
returns-clause-head c o h = c.finish.ensures.head (c.finish.ensures.done refl) o (c.walk_from_root.ensures.head o h).0

pub returns-clause-few : goal.returns-clause-few
returns-clause-few c o vertices most h b odd k =
    let next = c.walk_from_root.ensures.head o h in
    let was : is_odd (rotations_of o) c.args.route.now.stack (origin_of o c.args.start.0) ≡ 1 =
    subst (λ d. is_odd (rotations_of o) (d ++ c.args.route.now.stack) (origin_of o c.args.start.0) ≡ 1) h.done odd in
    let first = within_first o c.args.start.0 c.walk_from_root.result.0 c.args.route.now.stack c.walk_from_root.new.route next.0.fresh (c.walk_from_root.ensures.walked o h) next.1.done was vertices most
    (c.walk_from_root.ensures.counted o vertices most h b k) in
    let all = c.finish.ensures.within (c.finish.ensures.done refl) o vertices (most - 1) next.0 b first.0 in
    omega (arith, all, first.1)

pub returns-clause-empty : goal.returns-clause-empty
returns-clause-empty c = c.finish.ensures.empty (c.finish.ensures.done refl)
