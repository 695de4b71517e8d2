use Rattle.std.proofs.Common.{◌≡◌, ◌+◌, ◌-◌, ℕ}
use Rattle.half_edges.specs.Graph.{Graph, rotations_of}
use Rattle.cover_walks.specs.Walks.{AreBelow}
use Rattle.component_route.specs.declared.finish.Until.TheVariants.{Open}
use Rattle.component_route.specs.Courses.{weight}
use Rattle.component_route.specs.States.{MainHead, CountsWithin, IsUnbroken}
use Rattle.component_route.proofs.finish.finish.Given as goal

abbrev pub invariant-turns : goal.invariant-turns
invariant-turns l = record {
  head : (o : Graph) → MainHead o l.fn.start.0 l.fn.graph l.fn.route → MainHead o l.fn.start.0 l.graph l.route;
  within : (o : Graph) (vertices most : ℕ) → MainHead o l.fn.start.0 l.fn.graph l.fn.route → AreBelow (rotations_of o) vertices →
      CountsWithin o l.fn.start.0 vertices most l.fn.route → CountsWithin o l.fn.start.0 vertices most l.route;
  unbroken : l.until ≡ Open → (o : Graph) → MainHead o l.fn.start.0 l.fn.graph l.fn.route → IsUnbroken (rotations_of o) l.fn.route → IsUnbroken (rotations_of o) l.route;
  room : l.route.room ≡ l.fn.route.room;
}

abbrev pub decreases-turns : goal.decreases-turns
decreases-turns l = (l.fn.route.room + l.fn.route.room) - weight l.route
