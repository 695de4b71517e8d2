use Rattle.std.proofs.Common.{arith, ℕ, ◌∙◌, sym, ap}
use Rattle.std.proofs.lemmas.List.{length-map, get_or-map}
use Rattle.nest_base.specs.declared.numbers.Component.{Component}
use Rattle.half_edges.proofs.GraphReads.{vertex_at_number, component_within}
use Rattle.half_edges.proofs.graph.PlaneGraph.component_of.Goals as goal

pub returns-clause-within : goal.returns-clause-within
returns-clause-within c =
    let below = rw (← c.self.view_is) at c.requires in
    let components = c.self.inside.components.of_vertex.items in
    let number : Component → ℕ = λ k. k.0 in
    let p = vertex_at_number c.self.invariant.graph c.args.v.0 below in
    let read = ap number c.index.ensures ∙ sym (get_or-map number components c.args.v.0 c.index.result.now 0
    (omega (arith, below, length-map components number, c.self.invariant.graph.are_components.as_many))) in
    rw (← c.self.view_is) (omega (arith, read, component_within c.self.invariant.graph c.args.v.0 p.0 p.1))
