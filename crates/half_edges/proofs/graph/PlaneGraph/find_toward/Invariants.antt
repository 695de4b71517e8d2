use Rattle.std.proofs.Common.{◌≡◌, ◌-◌, List, Some, slice_get}
use Rattle.nest_base.specs.declared.places.Point.{Point}
use Rattle.nest_base.specs.Plane.{HalfEdge}
use Rattle.half_edges.specs.Rotations.{IsRotation}
use Rattle.half_edges.proofs.AngleSearch.{IsParted}
use Rattle.half_edges.proofs.graph.PlaneGraph.find_toward.Given as goal

abbrev pub invariant-loop-low : goal.invariant-loop-low
invariant-loop-low l =
    (p : Point) → slice_get l.self.vertices l.v.0 ≡ Some p → (rotation : List HalfEdge) → IsRotation l.self.edges p rotation → IsParted rotation l.toward.0 l.low l.high

abbrev pub decreases-loop-low : goal.decreases-loop-low
decreases-loop-low l = l.high - l.low
