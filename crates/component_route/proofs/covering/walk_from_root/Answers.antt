use Rattle.std.proofs.Common.{None}
use Rattle.half_edges.specs.Graph.{Graph, rotations_of, origin_of}
use Rattle.cover_walks.specs.Walks.{IsExhausted}
use Rattle.component_route.specs.Courses.{order_of}
use Rattle.component_route.specs.States.{WalkHead, FromRoot}
use Rattle.component_route.proofs.Roots.{root_reference, start_in, root_walk, root_main, root_again, root_counted}
use Rattle.component_route.proofs.covering.walk_from_root.Goals as goal
use Rattle.component_route.proofs.covering.walk_from_root.Goals.{After-walk}

pub ccw-requires : goal.ccw-requires
ccw-requires c = let (o, h) = c.requires.known in start_in o c.args.start.0 c.args.graph.now c.args.route.now h

pub walk-requires-clause-known : goal.walk-requires-clause-known
walk-requires-clause-known c = let (o, h) = c.requires.known in (
  o,
  c.args.start.0,
  origin_of o c.args.start.0,
  c.args.route.now.stack,
  h.head,
  root_reference o c.args.start.0 c.args.graph.now c.args.route.now h c.ccw.result.0 c.ccw.ensures.number,
)

-- the end of the walk
walked : (c : After-walk) (o : Graph) → FromRoot o c.args.start.0 c.args.graph.now c.args.route.now →
    WalkHead o c.args.start.0 None (origin_of o c.args.start.0) (origin_of o c.walk.result.0) c.args.route.now.stack c.walk.new.graph c.walk.new.route
    × IsExhausted (rotations_of o) (order_of c.walk.new.route) (origin_of o c.walk.result.0)
walked c o h =
    c.walk.ensures.head o c.args.start.0 (origin_of o c.args.start.0) c.args.route.now.stack h.head
    (root_reference o c.args.start.0 c.args.graph.now c.args.route.now h c.ccw.result.0 c.ccw.ensures.number)

pub returns-clause-head : goal.returns-clause-head
returns-clause-head c o h =
    let w = walked (goal.at.returns-clause-head c).After-walk o h in (
      root_main o c.args.start.0 c.args.graph.now c.args.route.now h c.walk.new.graph c.walk.new.route c.walk.result.0 w.0 w.1 c.walk.ensures.grows c.walk.ensures.longer,
      root_again o c.args.start.0 c.args.graph.now c.args.route.now h c.walk.new.graph c.walk.new.route c.walk.result.0 w.0 w.1 c.walk.ensures.grows c.walk.ensures.longer,
    )

pub returns-clause-counted : goal.returns-clause-counted
returns-clause-counted c o vertices most h b k =
    let w = walked (goal.at.returns-clause-counted c).After-walk o h in
    root_counted o c.args.start.0 c.args.graph.now c.args.route.now h c.walk.new.graph c.walk.new.route c.walk.result.0 w.0 w.1 c.walk.ensures.grows c.walk.ensures.longer
    vertices most b c.walk.ensures.within k

pub returns-clause-walked : goal.returns-clause-walked
returns-clause-walked c o h =
    let w = walked (goal.at.returns-clause-walked c).After-walk o h in
    root_walk o c.args.start.0 c.args.graph.now c.args.route.now h c.walk.new.graph c.walk.new.route c.walk.result.0 w.0 w.1 c.walk.ensures.grows c.walk.ensures.longer
