use Rattle.std.proofs.Common.{arith, ℕ, ◌∙◌, sym, ap}
use Rattle.std.proofs.lemmas.List.{length-map, get_or-map}
use Rattle.nest_base.specs.declared.numbers.VertexId.{VertexId}
use Rattle.half_edges.proofs.GraphCycles.{origin_within}
use Rattle.half_edges.proofs.graph.PlaneGraph.from.Goals as goal

pub returns-clause-within : goal.returns-clause-within
returns-clause-within c =
    let below = rw (← c.self.view_is) at c.requires in
    let origins = c.self.inside.layout.origins.items in
    let number : VertexId → ℕ = λ v. v.0 in
    let read = ap number c.index.ensures ∙ sym (get_or-map number origins c.args.s.0 c.index.result.now 0
    (omega (arith, below, length-map origins number, c.self.invariant.graph.layout.as_many))) in
    rw (← c.self.view_is) (omega (arith, read, origin_within c.self.invariant.graph c.args.s.0 below))
