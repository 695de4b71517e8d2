-- The odd vertices of all components, counted vertex by vertex.
use Rattle.std.proofs.Common.{ℕ, List, length}
use Rattle.std.specs.List.{AllZip}
use Rattle.half_edges.specs.Graph.{Graph, component_of}
use Rattle.half_edges.specs.PlaneGraphs.{IsPlaneGraph}
use Rattle.cover_plan.proofs.OddVertices.{odd_vertices}
use Rattle.plate_sides.specs.OddCounts.{HasOddCount}
use Rattle.pierce_bound.proofs.Counted.{odd_at}
use Rattle.pierce_report.proofs.Tallies.{AreTallied, all_tallied}

-- of each component, the odd ones among the first n vertices
abbrev pub AreCounted : Graph → ℕ → List ℕ → Type 0
AreCounted graph n counts = AreTallied (component_of graph) (odd_at graph) (length graph.marks) n counts

-- all vertices are counted
pub all_counted : {graph : Graph} → IsPlaneGraph graph → (counts : List ℕ) → AreCounted graph (length graph.vertices) counts →
    AllZip (HasOddCount graph.edges) graph.marks counts
all_counted {graph} is counts are =
    all_tallied (HasOddCount graph.edges) (component_of graph) (odd_at graph) (length graph.vertices) graph.marks counts are (λ c mark at. odd_vertices is c mark at)
