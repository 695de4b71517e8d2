-- A graph and the edges of it that are burnt.
use Rattle.std.proofs.Common.{arith, ℕ, ◌*◌, ◌<◌, length}
use Rattle.std.specs.Prelude.{All}
use Rattle.std.proofs.lemmas.List.Elements.{All-weaker}
use Rattle.half_edges.specs.declared.graph.PlaneGraph.TheInside.{Inside}
use Rattle.half_edges.specs.Numbers.{half_edges_of}
use Rattle.half_edges.specs.Views.{graph_view, HoldsGraph}
use Rattle.half_edges.proofs.Numbers.{length-half_edges}

module _ {g : Inside} (known : HoldsGraph g) where
  -- the edges that can burn are those of the graph
  pub burnable : (s : ℕ) → s < length (half_edges_of (graph_view g).edges) → s < 2 * g.burns.edges
  burnable s below = omega (arith, below, known.edges, length-half_edges (graph_view g).edges)

  pub burnt_within : All (λ s. s < 2 * g.burns.edges) g.burns.burnt → All (λ s. s < length (half_edges_of (graph_view g).edges)) g.burns.burnt
  burnt_within within =
      All-weaker (λ s. s < 2 * g.burns.edges) (λ s. s < length (half_edges_of (graph_view g).edges)) (λ s below. omega (arith, below, known.edges, length-half_edges (graph_view g).edges)) g.burns.burnt within
