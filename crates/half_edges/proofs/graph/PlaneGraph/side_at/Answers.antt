use Rattle.std.proofs.Common.{arith, ℕ, refl, ◌+◌, ◌∙◌, length, get_or, map, sym, ap}
use Rattle.std.proofs.lemmas.List.{length-map, get_or_read, get_or-map}
use Rattle.std.proofs.lemmas.Option.{slice_get_read, slice_get_within}
use Rattle.nest_base.specs.declared.numbers.Side.{Side}
use Rattle.nest_base.proofs.ListReads.{read-map}
use Rattle.half_edges.proofs.GraphReads.{vertex_at_number, rotation_of, place_within, side_in_rotation}
use Rattle.half_edges.proofs.graph.PlaneGraph.side_at.Goals as goal

pub index-requires-2 : goal.index-requires-2
index-requires-2 c =
    let p = vertex_at_number c.self.invariant.graph c.args.v.0 (rw (← c.self.view_is) at c.requires.vertex) in
    let inside = rw (← c.self.view_is) at c.requires.in_rotation in
    let within = place_within c.self.invariant.graph c.args.v.0 c.index.result.now c.args.k p.0 p.1 c.index.ensures (inside p.0 p.1) in
    omega (arith, within, c.self.inside.all.ok.0, length-map c.self.inside.all.items (λ s. s.0))

pub returns-clause-side : goal.returns-clause-side
returns-clause-side c =
    let inside = rw (← c.self.view_is) at c.requires.in_rotation in
    let all = c.self.inside.all.items in
    let place = c.index.result.now + c.args.k in
    rw (← c.self.view_is)
    (λ p at rotation is_rotation.
    let within = place_within c.self.invariant.graph c.args.v.0 c.index.result.now c.args.k p at c.index.ensures (inside p at) in
    let read = slice_get_read all (length all) place c.index-2.result.now refl (omega (arith, within, length-map all (λ s. s.0))) c.index-2.ensures in
    side_in_rotation c.self.invariant.graph c.args.v.0 c.index.result.now c.args.k c.index-2.result.now.0 p at c.index.ensures
    (read-map (λ (s : Side). s.0) all place c.index-2.result.now read) rotation is_rotation (inside p at rotation is_rotation))

pub returns-clause-number : goal.returns-clause-number
returns-clause-number c =
    let p = vertex_at_number c.self.invariant.graph c.args.v.0 (rw (← c.self.view_is) at c.requires.vertex) in
    let inside = rw (← c.self.view_is) at c.requires.in_rotation in
    let within = place_within c.self.invariant.graph c.args.v.0 c.index.result.now c.args.k p.0 p.1 c.index.ensures (inside p.0 p.1) in
    let all = c.self.inside.all.items in
    let number : Side → ℕ = λ s. s.0 in
    let place = c.index.result.now + c.args.k in
    let first = get_or_read c.self.inside.layout.starts.items c.args.v.0 c.index.result.now
    (omega (arith, c.self.invariant.graph.layout.one_more, slice_get_within c.self.inside.layout.places.keys c.args.v.0 p.0 p.1)) c.index.ensures 0 in
    rw (← c.self.view_is)
    (ap number c.index-2.ensures
    ∙ sym (get_or-map number all place c.index-2.result.now 0 (omega (arith, within, length-map all number)))
    ∙ ap (λ n. get_or (map number all) (n + c.args.k) 0) first)

pub returns-clause-within : goal.returns-clause-within
returns-clause-within c =
    let p = vertex_at_number c.self.invariant.graph c.args.v.0 (rw (← c.self.view_is) at c.requires.vertex) in
    let rotation = rotation_of c.self.invariant.graph c.args.v.0 p.0 p.1 in
    let side = (rw (← c.self.view_is) at (returns-clause-side c)) p.0 p.1 rotation.0 rotation.1 in
    rw (← c.self.view_is) (slice_get_within _ c.index-2.result.now.0 side.0 side.2)
