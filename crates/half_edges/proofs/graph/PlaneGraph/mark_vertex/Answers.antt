use Rattle.std.proofs.Common.{◌≡◌, refl, sym, ◌∙◌, length, Some, slice_get}
use Rattle.std.specs.Prelude.{Contains}
use Rattle.std.proofs.lemmas.Option.{slice_get_read, slice_get_within}
use Rattle.nest_base.proofs.ListReads.{Contains-from_read}
use Rattle.half_edges.proofs.PlaceNumbers.{some_found}
use Rattle.half_edges.proofs.GraphReads.{few_vertices}
use Rattle.half_edges.proofs.GraphMarks.{vertex_of_mark, component_of_mark}
use Rattle.half_edges.proofs.graph.PlaneGraph.mark_vertex.Goals as goal

-- the mark that was read
mark_read : (c : goal.After-unwrap) → slice_get c.self.inside.components.marks.items c.args.c.0 ≡ Some c.index.result.now
mark_read c =
    let marks = c.self.inside.components.marks.items in
    slice_get_read marks (length marks) c.args.c.0 c.index.result.now refl (rw (← c.self.view_is) at c.requires) c.index.ensures

-- it was found among the vertices
found_at : (c : goal.After-unwrap) → slice_get c.self.inside.layout.places.keys c.unwrap.result.0 ≡ Some c.index.result.now
found_at c = rw c.unwrap.ensures at c.number_of.ensures.found

pub number_of-requires : goal.number_of-requires
number_of-requires c = few_vertices c.self.invariant.graph

pub unwrap-requires : goal.unwrap-requires
unwrap-requires c =
    let places = c.self.inside.layout.places.keys in
    let marks = c.self.inside.components.marks.items in
    let m = c.index.result.now in
    let v = vertex_of_mark c.self.invariant.graph c.args.c.0 m (slice_get_read marks (length marks) c.args.c.0 m refl (rw (← c.self.view_is) at c.requires) c.index.ensures) in
    some_found c.number_of.result (Contains places m) c.number_of.ensures.none (Contains-from_read places v.0 m v.1)

pub returns-clause-mark : goal.returns-clause-mark
returns-clause-mark c = rw (← c.self.view_is) (found_at c ∙ sym (mark_read c))

pub returns-clause-component : goal.returns-clause-component
returns-clause-component c = rw (← c.self.view_is) (component_of_mark c.self.invariant.graph c.args.c.0 c.unwrap.result.0 c.index.result.now (mark_read c) (found_at c))

pub returns-clause-within : goal.returns-clause-within
returns-clause-within c = rw (← c.self.view_is) (slice_get_within c.self.inside.layout.places.keys c.unwrap.result.0 c.index.result.now (found_at c))
