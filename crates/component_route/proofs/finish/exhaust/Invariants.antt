use Rattle.std.proofs.Common.{◌≡◌, ◌-◌, ℕ, length}
use Rattle.half_edges.specs.Graph.{Graph, rotations_of, origin_of}
use Rattle.cover_walks.specs.Walks.{AreBelow}
use Rattle.cover_walks.specs.Choices.{IsReference}
use Rattle.component_route.specs.declared.finish.Until.TheVariants.{Open}
use Rattle.component_route.specs.Courses.{StackGrows}
use Rattle.component_route.specs.Scans.{moved_last}
use Rattle.component_route.specs.States.{WalkHead, CountsWithinAt, IsUnbrokenAt}
use Rattle.component_route.proofs.finish.exhaust.Given as goal

abbrev pub invariant-walks : goal.invariant-walks
invariant-walks l = record {
  head : (o : Graph) (start : ℕ) → let v = origin_of o l.fn.reference.left.0 in WalkHead o start l.avoid v v l.fn.route.stack l.fn.graph l.fn.route →
      IsReference (rotations_of o) start l.fn.route.stack v l.fn.reference.left.0 l.fn.reference.right.0 → WalkHead o start l.avoid v v l.route.stack l.graph l.route;
  counted : (o : Graph) (start vertices most : ℕ) → let v = origin_of o l.fn.reference.left.0 in WalkHead o start l.avoid v v l.fn.route.stack l.fn.graph l.fn.route →
      IsReference (rotations_of o) start l.fn.route.stack v l.fn.reference.left.0 l.fn.reference.right.0 → AreBelow (rotations_of o) vertices →
      CountsWithinAt o start vertices most v l.fn.route → CountsWithinAt o start vertices most v l.route;
  unbroken : l.until ≡ Open → (o : Graph) (start : ℕ) → let v = origin_of o l.fn.reference.left.0 in WalkHead o start l.avoid v v l.fn.route.stack l.fn.graph l.fn.route →
      IsReference (rotations_of o) start l.fn.route.stack v l.fn.reference.left.0 l.fn.reference.right.0 →
      IsUnbrokenAt (rotations_of o) (moved_last (rotations_of o) l.avoid) v l.fn.route → IsUnbrokenAt (rotations_of o) (moved_last (rotations_of o) l.avoid) v l.route;
  grows : StackGrows l.fn.route l.route;
}

abbrev pub decreases-walks : goal.decreases-walks
decreases-walks l = l.fn.route.room - length l.route.stack
