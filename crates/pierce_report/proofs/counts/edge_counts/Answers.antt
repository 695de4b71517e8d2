use Rattle.std.proofs.Common.{arith, ◌≡◌, length, replicate, ap, ◌∙◌}
use Rattle.half_edges.specs.Graph.{component_of}
use Rattle.half_edges.proofs.Numbers.{length-half_edges}
use Rattle.pierce_bound.proofs.Tallies.{counted_few}
use Rattle.pierce_report.proofs.Tallies.{none_tallied, count_read, one_more}
use Rattle.pierce_report.proofs.ByComponent.{edge_component, each_one, one_is_one, all_edges_counted}
use Rattle.pierce_report.proofs.counts.edge_counts.Goals as goal

pub loop-k-init : goal.loop-k-init
loop-k-init c =
    let graph = c.args.graph.now in
    let items : c.in_ok-counts.counts.items ≡ replicate c.component_count.result 0 = c.in_ok-counts.ensures.items_if_clones_equal (λ y same. same) in
    none_tallied (edge_component graph) each_one (length graph.marks) c.in_ok-counts.counts.items (items ∙ ap (λ k. replicate k 0) c.component_count.ensures.count)

pub from-vertex-requires : goal.from-vertex-requires
from-vertex-requires c = omega (arith, c.loop-k-test.true, c.edge_count-k-end.ensures.count, length-half_edges c.args.graph.now.edges)

pub overflow_add-index_mut : goal.overflow_add-index_mut
overflow_add-index_mut c =
    let graph = c.args.graph.now in
    let d = c.component_of.result.0 in
    let old = count_read (edge_component graph) each_one (length graph.marks) c.loop-k.k c.loop-k.counts.items d c.index_mut.result.now c.loop-k.invariant c.component_of.ensures.within c.index_mut.ensures.value in
    omega (arith, old.1, counted_few (edge_component graph) each_one d c.loop-k.k one_is_one, c.loop-k-test.true, c.edge_count-k-end.type_inv)

pub loop-k-preserved : goal.loop-k-preserved
loop-k-preserved c =
    let graph = c.args.graph.now in
    let counts = c.loop-k.counts.items in
    let number : c.component_of.result.0 ≡ edge_component graph c.loop-k.k = c.component_of.ensures.number ∙ ap (component_of graph) c.from-vertex.ensures.number in
    let old = count_read (edge_component graph) each_one (length graph.marks) c.loop-k.k counts c.component_of.result.0 c.index_mut.result.now c.loop-k.invariant c.component_of.ensures.within c.index_mut.ensures.value in
    rw number (one_more (edge_component graph) each_one (length graph.marks) c.loop-k.k c.index_mut.result.now counts c.loop-k.invariant (rw number at c.component_of.ensures.within) (rw number at old.0))

pub returns : goal.returns
returns c =
    let graph = c.args.graph.now in
    let all : c.loop-k.k ≡ length graph.edges = omega (arith, c.edge_count-k-end.ensures.count, c.loop-k-test.false, c.loop-k.auto.k-end) in
    all_edges_counted c.graph_is_plane.ensures c.loop-k.k c.loop-k.counts.items all c.loop-k.invariant
