use Rattle.std.proofs.Common.{arith, ◌≡◌, ◌+◌, [], length, subst, sym, ap, ◌∙◌}
use Rattle.rotation_systems.specs.RotationSystem.{total}
use Rattle.half_edges.specs.Graph.{rotations_of, component_of}
use Rattle.cover_walks.specs.Walks.{odd_within}
use Rattle.cover_plan.proofs.OddVertices.{odd_vertices}
use Rattle.plate_sides.specs.OddCounts.{HasOddCount}
use Rattle.pierce_bound.proofs.Counted.{odd_few}
use Rattle.pierce_bound.proofs.Tallies.{total_more}
use Rattle.pierce_bound.proofs.odd.odd_count.Goals as goal

pub overflow_add-count : goal.overflow_add-count
overflow_add-count c =
    let graph = c.args.graph.now in
    let f = odd_within (rotations_of graph) (component_of graph) c.args.c.0 [] in
    omega (arith, c.loop-v.invariant, c.odd_within-count.ensures, total_more f c.loop-v.v, odd_few graph c.args.c.0 (c.loop-v.v + 1), c.loop-v-test.true, c.vertex_count-v-end.type_inv)

pub returns : goal.returns
returns c = λ mark at.
    let graph = c.args.graph.now in
    let all : c.loop-v.v ≡ length graph.vertices = omega (arith, c.vertex_count-v-end.ensures.count, c.loop-v-test.false, c.loop-v.auto.v-end) in
    let count = c.loop-v.invariant ∙ ap (total (odd_within (rotations_of graph) (component_of graph) c.args.c.0 [])) all in
    subst (HasOddCount graph.edges mark) (sym count) (odd_vertices c.graph_is_plane.ensures c.args.c.0 mark at)
