-- What orders of numbers are on the plate.
use Rattle.std.specs.Prelude.{ℕ, List, map}
use Rattle.nest_base.specs.Plane.{HalfEdge}
use Rattle.half_edges.specs.Runs.{side_at}
use Rattle.half_edges.specs.Numbers.{half_edges_of}
use Rattle.half_edges.specs.Graph.{Graph, rotations_of}
use Rattle.cover_walks.specs.Chains.{chains_of}

-- the half-edge with a number
abbrev pub half_edge_of : Graph → ℕ → HalfEdge
half_edge_of graph s = side_at (half_edges_of graph.edges) s

-- the half-edges of the chains of an order
abbrev pub trails_of : Graph → List ℕ → List (List HalfEdge)
trails_of graph order = map (map (half_edge_of graph)) (chains_of (rotations_of graph) order)
