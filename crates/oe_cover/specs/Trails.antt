-- What chains are on the plate, and which edges a component has.
use Rattle.std.specs.Prelude.{◌≡◌, ◌<◌, ℕ, List, length, map}
use Rattle.nest_base.specs.declared.places.Edge.{Edge}
use Rattle.nest_base.specs.Plane.{HalfEdge}
use Rattle.half_edges.specs.Numbers.{half_edges_of}
use Rattle.half_edges.specs.Runs.{side_at}
use Rattle.half_edges.specs.Graph.{Graph, origin_of, component_of}

-- the half-edges of chains
abbrev pub trails_by : List Edge → List (List ℕ) → List (List HalfEdge)
trails_by edges chains = map (map (side_at (half_edges_of edges))) chains

-- s is the number of a half-edge of the component with the number c
abbrev pub IsOf : Graph → ℕ → ℕ → Type 0
IsOf graph c s = (s < length (half_edges_of graph.edges)) × (component_of graph (origin_of graph s) ≡ c)
