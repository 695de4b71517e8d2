use Rattle.std.proofs.Common.{◌≡◌, ◌-◌, ◌<◌, ◌∷◌, ℕ, List, length}
use Rattle.half_edges.specs.Graph.{Graph, rotations_of, origin_of}
use Rattle.cover_walks.specs.Choices.{IsReference}
use Rattle.component_route.specs.Courses.{StackGrows}
use Rattle.component_route.specs.States.{WalkHead}
use Rattle.component_route.proofs.walk.walk.Given as goal

abbrev pub invariant-steps : goal.invariant-steps
invariant-steps l = record {
  head : (o : Graph) (start v : ℕ) (base : List ℕ) → WalkHead o start l.avoid v (origin_of o l.fn.reference.left.0) base l.fn.graph l.fn.route →
      IsReference (rotations_of o) start l.fn.route.stack (origin_of o l.fn.reference.left.0) l.fn.reference.left.0 l.fn.reference.right.0 →
      WalkHead o start l.avoid v (origin_of o l.side.0) base l.graph l.route;
  top : (rest : List ℕ) × (l.route.stack ≡ l.side.0 ∷ rest);
  grows : StackGrows l.fn.route l.route;
  longer : length l.fn.route.stack < length l.route.stack;
  within : l.side.0 < (rotations_of l.graph).sides;
}

abbrev pub decreases-steps : goal.decreases-steps
decreases-steps l = l.fn.route.room - length l.route.stack
