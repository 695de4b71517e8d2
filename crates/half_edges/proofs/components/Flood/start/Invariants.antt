use Rattle.std.proofs.Common.{◌≡◌, ◌≢◌, ◌+◌, ◌≤◌, List, length}
use Rattle.nest_base.specs.declared.places.Edge.{Edge}
use Rattle.half_edges.specs.Floods.{IsLaidOut, IsFlood, AreKept, unnumbered, component_at, none}
use Rattle.nest_base.specs.NumberLists.{component_numbers, vertex_numbers}
use Rattle.nest_base.specs.Limits.{most_half_edges}
use Rattle.half_edges.proofs.components.Flood.start.Given as goal

abbrev pub invariant-loop-u : goal.invariant-loop-u
invariant-loop-u l = record {
  few : length l.self.marks.items ≤ most_half_edges;
  marks_stay : l.self.marks.items ≡ l.initial.self.marks.items;
  kept : AreKept (component_numbers l.fn.self.of_vertex.items) (component_numbers l.self.of_vertex.items);
  numbered : component_at (component_numbers l.self.of_vertex.items) l.fn.v.0 ≢ none;
  flood : (edges : List Edge) → IsLaidOut l.layout l.all edges →
      IsFlood edges l.layout.places.keys (component_numbers l.self.of_vertex.items) l.self.marks.items (vertex_numbers l.self.found.items);
}

abbrev pub decreases-loop-u : goal.decreases-loop-u
decreases-loop-u l = unnumbered (component_numbers l.self.of_vertex.items) + length l.self.found.items
