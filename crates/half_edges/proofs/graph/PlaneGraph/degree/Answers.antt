use Rattle.std.proofs.Common.{arith, ◌≡◌, ◌+◌, ◌-◌, length, subst}
use Rattle.std.proofs.lemmas.List.{get_or_read}
use Rattle.std.proofs.lemmas.Option.{slice_get_within}
use Rattle.plate_sides.specs.Odd.{HasDegree}
use Rattle.half_edges.proofs.Degrees.{degree_of_rotation}
use Rattle.half_edges.proofs.RotationLaws.{counted_at}
use Rattle.half_edges.proofs.GraphReads.{vertex_at_number, first_within, block_long, rotation_of}
use Rattle.half_edges.proofs.graph.PlaneGraph.degree.Goals as goal

pub overflow_sub-result : goal.overflow_sub-result
overflow_sub-result c =
    let p = vertex_at_number c.self.invariant.graph c.args.v.0 (rw (← c.self.view_is) at c.requires) in
    first_within c.self.invariant.graph c.args.v.0 c.index-2.result.now c.index.result.now p.0 p.1 c.index-2.ensures c.index.ensures

pub returns-clause-count : goal.returns-clause-count
returns-clause-count c =
    rw (← c.self.view_is) (λ p at rotation is_rotation. omega (arith, block_long c.self.invariant.graph c.args.v.0 c.index-2.result.now c.index.result.now p at c.index-2.ensures c.index.ensures rotation is_rotation))

pub returns-clause-rotation : goal.returns-clause-rotation
returns-clause-rotation c = rw (← c.self.view_is) (λ p at. rotation_of c.self.invariant.graph c.args.v.0 p at)

pub returns-clause-sides : goal.returns-clause-sides
returns-clause-sides c =
    let p = vertex_at_number c.self.invariant.graph c.args.v.0 (rw (← c.self.view_is) at c.requires) in
    let starts = c.self.inside.layout.starts.items in
    let counted = counted_at c.self.invariant.graph c.args.v.0 p.0 p.1 in
    let long = c.self.invariant.graph.layout.one_more in
    let below = slice_get_within c.self.inside.layout.places.keys c.args.v.0 p.0 p.1 in
    let first = get_or_read starts c.args.v.0 c.index-2.result.now (omega (arith, long, below)) c.index-2.ensures 0 in
    let behind = get_or_read starts (c.args.v.0 + 1) c.index.result.now (omega (arith, long, below)) c.index.ensures 0 in
    rw (← c.self.view_is) (omega (arith, counted, first, behind))

pub returns-clause-edges : goal.returns-clause-edges
returns-clause-edges c = rw (← c.self.view_is)
    (λ p at.
    let rotation = rotation_of c.self.invariant.graph c.args.v.0 p at in
    let long = block_long c.self.invariant.graph c.args.v.0 c.index-2.result.now c.index.result.now p at c.index-2.ensures c.index.ensures rotation.0 rotation.1 in
    let same : length rotation.0 ≡ c.index.result.now - c.index-2.result.now = omega (arith, long) in
    subst (HasDegree _ p) same (degree_of_rotation _ p rotation.0 c.self.invariant.graph.ends_in_order c.self.invariant.graph.each_once rotation.1))
