use Rattle.std.proofs.Common.{arith, refl, length}
use Rattle.std.proofs.lemmas.List.{length-map}
use Rattle.std.proofs.lemmas.Option.{slice_get_read}
use Rattle.nest_base.specs.declared.numbers.Side.{Side}
use Rattle.nest_base.proofs.ListReads.{read-map}
use Rattle.half_edges.proofs.GraphReads.{vertex_at_number, first_place_within, first_in_rotation, rotation_of}
use Rattle.half_edges.proofs.GraphCycles.{first_leaves}
use Rattle.half_edges.proofs.graph.PlaneGraph.first_side.Goals as goal

pub index-requires-2 : goal.index-requires-2
index-requires-2 c =
    let p = vertex_at_number c.self.invariant.graph c.args.v.0 (rw (← c.self.view_is) at c.requires) in
    let within = first_place_within c.self.invariant.graph c.args.v.0 c.index.result.now p.0 p.1 c.index.ensures in
    omega (arith, within, c.self.inside.all.ok.0, length-map c.self.inside.all.items (λ s. s.0))

pub returns-clause-first : goal.returns-clause-first
returns-clause-first c =
    let all = c.self.inside.all.items in
    let first = c.index.result.now in
    rw (← c.self.view_is)
    (λ p at.
    let within = first_place_within c.self.invariant.graph c.args.v.0 first p at c.index.ensures in
    let read = slice_get_read all (length all) first c.index-2.result.now refl (omega (arith, within, length-map all (λ s. s.0))) c.index-2.ensures in
    first_in_rotation c.self.invariant.graph c.args.v.0 first c.index-2.result.now.0 p at c.index.ensures (read-map (λ (s : Side). s.0) all first c.index-2.result.now read))

pub returns-clause-rotation : goal.returns-clause-rotation
returns-clause-rotation c = rw (← c.self.view_is) (λ p at. rotation_of c.self.invariant.graph c.args.v.0 p at)

pub returns-clause-within : goal.returns-clause-within
returns-clause-within c =
    let all = c.self.inside.all.items in
    let first = c.index.result.now in
    let p = vertex_at_number c.self.invariant.graph c.args.v.0 (rw (← c.self.view_is) at c.requires) in
    let within = first_place_within c.self.invariant.graph c.args.v.0 first p.0 p.1 c.index.ensures in
    let read = slice_get_read all (length all) first c.index-2.result.now refl (omega (arith, within, length-map all (λ s. s.0))) c.index-2.ensures in
    rw (← c.self.view_is)
    (first_leaves c.self.invariant.graph c.args.v.0 first c.index-2.result.now.0 p.0 p.1 c.index.ensures (read-map (λ (s : Side). s.0) all first c.index-2.result.now read)).0

pub returns-clause-leaves : goal.returns-clause-leaves
returns-clause-leaves c =
    let all = c.self.inside.all.items in
    let first = c.index.result.now in
    let p = vertex_at_number c.self.invariant.graph c.args.v.0 (rw (← c.self.view_is) at c.requires) in
    let within = first_place_within c.self.invariant.graph c.args.v.0 first p.0 p.1 c.index.ensures in
    let read = slice_get_read all (length all) first c.index-2.result.now refl (omega (arith, within, length-map all (λ s. s.0))) c.index-2.ensures in
    rw (← c.self.view_is)
    (first_leaves c.self.invariant.graph c.args.v.0 first c.index-2.result.now.0 p.0 p.1 c.index.ensures (read-map (λ (s : Side). s.0) all first c.index-2.result.now read)).1
