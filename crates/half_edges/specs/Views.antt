-- What contracts see of a plane graph, and what holds of its fields.
use Rattle.std.specs.Prelude.{◌≡◌, length, map}
use Rattle.half_edges.specs.declared.graph.PlaneGraph.TheInside.{Inside}
use Rattle.half_edges.specs.Graph.{Graph, IsGraph, edges_between}

abbrev pub graph_view : Inside → Graph
graph_view g = record {
  edges = edges_between g.layout.places.keys (map (λ v. v.0) g.layout.origins.items);
  vertices = g.layout.places.keys;
  marks = g.components.marks.items;
  origins = map (λ v. v.0) g.layout.origins.items;
  positions = g.layout.positions.items;
  all = map (λ s. s.0) g.all.items;
  starts = g.layout.starts.items;
  components = map (λ c. c.0) g.components.of_vertex.items;
  burnt = g.burns.burnt;
}

pub record HoldsGraph (g : Inside) : Type 0 where
  pub graph : IsGraph (graph_view g)
  -- each edge can be burnt
  pub edges : g.burns.edges ≡ length (graph_view g).edges
