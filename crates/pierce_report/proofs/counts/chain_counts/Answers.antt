use Rattle.std.proofs.Common.{arith, ◌≡◌, [], length, replicate, sym, ap, ◌∙◌}
use Rattle.std.proofs.lemmas.Option.{get_or_from_slice_get}
use Rattle.nest_base.specs.NumberLists.{side_numbers}
use Rattle.cover_plan.proofs.TrailNumbers.{chain_is_trail, chain_below}
use Rattle.pierce_bound.proofs.Tallies.{counted_few}
use Rattle.pierce_report.proofs.Tallies.{none_tallied, count_read, one_more}
use Rattle.pierce_report.specs.Rows.{chain_component}
use Rattle.pierce_report.proofs.Totals.{total_ones}
use Rattle.pierce_report.proofs.ByComponent.{chain_component_at, each_one, one_is_one, all_chains_counted}
use Rattle.pierce_report.proofs.counts.chain_counts.Goals as goal

pub loop-k-init : goal.loop-k-init
loop-k-init c =
    let graph = c.args.graph.now in
    let items : c.in_ok-counts.counts.items ≡ replicate c.component_count.result 0 = c.in_ok-counts.ensures.items_if_clones_equal (λ y same. same) in
    none_tallied (chain_component_at graph c.args.plan.now) each_one (length graph.marks) c.in_ok-counts.counts.items (items ∙ ap (λ k. replicate k 0) c.component_count.ensures.count)

pub component_of_chain-c-requires-clause-within : goal.component_of_chain-c-requires-clause-within
component_of_chain-c-requires-clause-within c =
    let chain = side_numbers c.chain.result.now in
    chain_below c.graph_is_plane.ensures chain (chain_is_trail c.args.graph.now c.args.plan.now c.requires.trails c.loop-k.k chain c.chain.ensures.chain)

pub overflow_add-index_mut : goal.overflow_add-index_mut
overflow_add-index_mut c =
    let graph = c.args.graph.now in
    let place = chain_component_at graph c.args.plan.now in
    let d = c.component_of_chain-c.result.0 in
    let old = count_read place each_one (length graph.marks) c.loop-k.k c.loop-k.counts.items d c.index_mut.result.now c.loop-k.invariant c.component_of_chain-c.ensures.within c.index_mut.ensures.value in
    omega (arith, old.1, counted_few place each_one d c.loop-k.k one_is_one, c.loop-k-test.true, c.len-k-end.type_inv)

pub loop-k-preserved : goal.loop-k-preserved
loop-k-preserved c =
    let graph = c.args.graph.now in
    let plan = c.args.plan.now in
    let counts = c.loop-k.counts.items in
    let chain = side_numbers c.chain.result.now in
    let number : c.component_of_chain-c.result.0 ≡ chain_component_at graph plan c.loop-k.k =
    c.component_of_chain-c.ensures.number ∙ ap (chain_component graph) (sym (get_or_from_slice_get plan c.loop-k.k chain [] c.chain.ensures.chain)) in
    let old = count_read (chain_component_at graph plan) each_one (length graph.marks) c.loop-k.k counts c.component_of_chain-c.result.0 c.index_mut.result.now c.loop-k.invariant
    c.component_of_chain-c.ensures.within c.index_mut.ensures.value in
    rw number (one_more (chain_component_at graph plan) each_one (length graph.marks) c.loop-k.k c.index_mut.result.now counts c.loop-k.invariant
    (rw number at c.component_of_chain-c.ensures.within) (rw number at old.0))

pub returns-clause-each : goal.returns-clause-each
returns-clause-each c =
    let plan = c.args.plan.now in
    let all : c.loop-k.k ≡ length plan = omega (arith, c.len-k-end.ensures, c.loop-k-test.false, c.loop-k.auto.k-end) in
    all_chains_counted c.graph_is_plane.ensures plan c.requires.trails c.loop-k.k c.loop-k.counts.items all c.loop-k.invariant

pub returns-clause-all : goal.returns-clause-all
returns-clause-all c = omega (arith, c.loop-k.invariant.in_all, total_ones c.loop-k.k, c.len-k-end.ensures, c.loop-k-test.false, c.loop-k.auto.k-end)
