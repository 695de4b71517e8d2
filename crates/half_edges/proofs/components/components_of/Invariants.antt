use Rattle.half_edges.specs.Floods.{IsLaidOut}
use Rattle.nest_base.specs.NumberLists.{component_numbers, vertex_numbers}
use Rattle.half_edges.proofs.FirstMarks.{AreNumbered}
use Rattle.half_edges.proofs.components.components_of.Given as goal

abbrev pub invariant-loop-v : goal.invariant-loop-v
invariant-loop-v l =
    AreNumbered (IsLaidOut l.layout l.all) l.layout.places.keys l.v (component_numbers l.flood.of_vertex.items) l.flood.marks.items (vertex_numbers l.flood.found.items)
