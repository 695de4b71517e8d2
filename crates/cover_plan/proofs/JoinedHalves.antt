-- What numbers join to outer half-edges, reaches these on the plate.
use Rattle.std.proofs.Common.{◌≡◌, ℕ, zero, suc, ◌<◌, List, length, map, subst, sym}
use Rattle.nest_base.specs.declared.places.Point.{Point}
use Rattle.nest_base.specs.Walks.{here, on, against}
use Rattle.plate_sides.specs.Links.{IsOuterSide}
use Rattle.plate_sides.specs.Enclosing.{ReachesEdgeOf, along as along_link, across as across_link}
use Rattle.half_edges.specs.Numbers.{half_edges_of}
use Rattle.rotation_systems.specs.Twins.{twin_number}
use Rattle.rotation_systems.specs.RotationSystem.{along}
use Rattle.half_edges.specs.Graph.{Graph, rotations_of, component_of}
use Rattle.cover_walks.specs.Orders.{Joined, at_outer, by_along, by_back, by_across}
use Rattle.cover_walks.specs.Walks.{Inside}
use Rattle.cover_walks.proofs.Holdings.{has_inside}
use Rattle.face_nesting.proofs.KnownGraph.{along_below}
use Rattle.half_edges.specs.PlaneGraphs.{IsPlaneGraph}
use Rattle.cover_plan.specs.Trails.{half_edge_of}
use Rattle.cover_plan.proofs.GraphHalves.{is_half_edge, half_twin, half_along}
use Rattle.cover_plan.proofs.NamedEdges.{edge_from_number}

-- k steps along
abbrev steps : Graph → ℕ → ℕ → ℕ
steps graph zero s = s
steps graph (suc k) s = steps graph k (along (rotations_of graph) s)

module _ {graph : Graph} (is : IsPlaneGraph graph) (c : ℕ) (mark : Point) (start : ℕ) (start_below : start < length (half_edges_of graph.edges))
    (outer : IsOuterSide graph.edges mark (half_edge_of graph start)) (over : List ℕ) (inside : Inside (rotations_of graph) (component_of graph) c over) where
  ReachesHere : ℕ → Type 0
  ReachesHere s = ReachesEdgeOf graph.edges mark (map (half_edge_of graph) over) (half_edge_of graph s)

  onward : (k s : ℕ) → s < length (half_edges_of graph.edges) → ReachesHere s → ReachesHere (steps graph k s)
  unfolding ReachesHere
  onward zero s below reached = reached
  onward (suc k) s below reached =
      onward k (along (rotations_of graph) s) (along_below is s below) (reached.0, reached.1, against (along_link (half_along is s below)) reached.2)

  -- what is joined reaches, and so does each half-edge along from it
  joined_reaches : (s : ℕ) → Joined (rotations_of graph) (λ s. s ≡ start) over s → (k : ℕ) → steps graph k s < length (half_edges_of graph.edges) → ReachesHere (steps graph k s)
  unfolding ReachesHere
  joined_reaches s (at_outer same) k below =
      subst (λ s. ReachesHere (steps graph k s)) (sym same) (onward k start start_below (half_edge_of graph start, outer, here))
  joined_reaches s (by_along joined) zero below =
      let reached = joined_reaches (along (rotations_of graph) s) joined zero (along_below is s below) in
      (reached.0, reached.1, on (along_link (half_along is s below)) reached.2)
  joined_reaches s (by_along joined) (suc k) below = joined_reaches (along (rotations_of graph) s) joined k below
  joined_reaches _ (by_back {s} joined) k below = joined_reaches s joined (suc k) below
  joined_reaches s (by_across has joined) k below =
      let in_range : s < length (half_edges_of graph.edges) = has_inside (rotations_of graph) is.rotation (component_of graph) c over s inside has in
      let other = joined_reaches (twin_number s) joined zero (is.rotation.twin_in s in_range) in
      let reached = subst (ReachesEdgeOf graph.edges mark (map (half_edge_of graph) over)) (half_twin is s in_range) other in
      onward k s in_range (reached.0, reached.1, on (across_link (is_half_edge is s in_range) (edge_from_number is c over inside s has)) reached.2)

  pub joined_is_reached : (s : ℕ) → s < length (half_edges_of graph.edges) → Joined (rotations_of graph) (λ s. s ≡ start) over s →
      ReachesEdgeOf graph.edges mark (map (half_edge_of graph) over) (half_edge_of graph s)
  unfolding ReachesHere
  joined_is_reached s below joined = joined_reaches s joined zero below
