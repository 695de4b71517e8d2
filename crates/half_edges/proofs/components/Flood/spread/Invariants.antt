use Rattle.half_edges.specs.Floods.{IsLaidOut}
use Rattle.nest_base.specs.NumberLists.{component_numbers, vertex_numbers, side_numbers}
use Rattle.half_edges.proofs.Spreading.{IsSpreading}
use Rattle.half_edges.proofs.components.Flood.spread.Given as goal

abbrev pub invariant-loop-s : goal.invariant-loop-s
invariant-loop-s l =
    IsSpreading (IsLaidOut l.layout l.all) l.layout.places.keys (vertex_numbers l.layout.origins.items) (side_numbers l.s-items) l.fn.u.0 l.c.0 l.s-index
    (component_numbers l.initial.self.of_vertex.items) (vertex_numbers l.initial.self.found.items) l.initial.self.marks.items
    (component_numbers l.self.of_vertex.items) l.self.marks.items (vertex_numbers l.self.found.items)
