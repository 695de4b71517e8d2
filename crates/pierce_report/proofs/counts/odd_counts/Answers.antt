use Rattle.std.proofs.Common.{arith, ◌≡◌, ◌+◌, length, replicate, set, subst, ap, ◌∙◌}
use Rattle.half_edges.specs.Graph.{component_of}
use Rattle.pierce_report.proofs.Tallies.{count_read, none_tallied, one_more}
use Rattle.pierce_bound.proofs.Counted.{odd_at, odd_is, odd_few}
use Rattle.pierce_report.proofs.OddCounts.{AreCounted, all_counted}
use Rattle.pierce_report.proofs.counts.odd_counts.Goals as goal

pub loop-v-init : goal.loop-v-init
loop-v-init c =
    let graph = c.args.graph.now in
    let items : c.in_ok-counts.counts.items ≡ replicate c.component_count.result 0 = c.in_ok-counts.ensures.items_if_clones_equal (λ y same. same) in
    none_tallied (component_of graph) (odd_at graph) (length graph.marks) c.in_ok-counts.counts.items (items ∙ ap (λ k. replicate k 0) c.component_count.ensures.count)

pub overflow_add-index_mut : goal.overflow_add-index_mut
overflow_add-index_mut c =
    let graph = c.args.graph.now in
    let d = c.component_of.result.0 in
    let old = count_read (component_of graph) (odd_at graph) (length graph.marks) c.loop-v.v c.loop-v.counts.items d c.index_mut.result.now c.loop-v.invariant c.component_of.ensures.within c.index_mut.ensures.value in
    omega (arith, old.1, odd_few graph d c.loop-v.v, c.loop-v-test.true, c.vertex_count-v-end.type_inv)

pub loop-v-preserved : goal.loop-v-preserved
loop-v-preserved c =
    let graph = c.args.graph.now in
    let counts = c.loop-v.counts.items in
    let number = c.component_of.ensures.number in
    let old = count_read (component_of graph) (odd_at graph) (length graph.marks) c.loop-v.v counts c.component_of.result.0 c.index_mut.result.now c.loop-v.invariant c.component_of.ensures.within c.index_mut.ensures.value in
    let more = one_more (component_of graph) (odd_at graph) (length graph.marks) c.loop-v.v c.index_mut.result.now counts c.loop-v.invariant
    (rw number at c.component_of.ensures.within) (rw number at old.0) in
    rw (number, c.degree.ensures.sides) (subst (λ w. AreCounted graph (c.loop-v.v + 1) (set counts (component_of graph c.loop-v.v) (c.index_mut.result.now + w))) (odd_is graph c.loop-v.v) more)

pub returns : goal.returns
returns c =
    let graph = c.args.graph.now in
    let all : c.loop-v.v ≡ length graph.vertices = omega (arith, c.vertex_count-v-end.ensures.count, c.loop-v-test.false, c.loop-v.auto.v-end) in
    all_counted c.graph_is_plane.ensures c.loop-v.counts.items (subst (λ n. AreCounted graph n c.loop-v.counts.items) all c.loop-v.invariant)
