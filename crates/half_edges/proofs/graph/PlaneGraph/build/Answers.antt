use Rattle.std.proofs.Common.{arith, length, sym, ap, ◌∙◌}
use Rattle.half_edges.proofs.GraphSizes.{length-vertices-le}
use Rattle.half_edges.proofs.Built.{edges_of_layout, graph_of_lists}
use Rattle.half_edges.proofs.graph.PlaneGraph.build.Goals as goal

pub all_round-requires-clause-apart : goal.all_round-requires-clause-apart
all_round-requires-clause-apart c = rw c.as_slice.ensures c.requires.apart

pub components_of-requires-clause-few : goal.components_of-requires-clause-few
components_of-requires-clause-few c =
    let layout = rw (c.as_slice-2.ensures, c.deref.ensures.value) at c.in_ok-layout.ensures.layout in
    omega (arith, c.requires.few, length-vertices-le c.args.edges.now c.in_ok-layout.layout.places.keys layout.are_vertices)

pub invariant_of-result : goal.invariant_of-result
invariant_of-result c =
    let all = rw c.as_slice.ensures at c.in_ok-all.ensures in
    let layout = rw (c.as_slice-2.ensures, c.deref.ensures.value) at c.in_ok-layout.ensures.layout in
    let positions = rw c.as_slice-2.ensures at c.in_ok-layout.ensures.positions in
    let components = rw c.deref-2.ensures.value at c.in_ok-components.ensures in
    let graph = graph_of_lists c.args.edges.now _ _ _ _ _ _ _ _ c.requires.few c.requires.ends_in_order c.requires.within c.requires.apart all layout positions (components c.args.edges.now layout) in
    record { graph = graph; edges = c.in_ok-burns.ensures.edges ∙ ap length (c.as_slice-3.ensures ∙ sym (edges_of_layout c.args.edges.now _ _ _ _ layout)) }

pub returns-clause-edges : goal.returns-clause-edges
returns-clause-edges c = edges_of_layout c.args.edges.now _ _ _ _ (rw (c.as_slice-2.ensures, c.deref.ensures.value) at c.in_ok-layout.ensures.layout)

pub returns-clause-marks : goal.returns-clause-marks
returns-clause-marks c =
    let layout = rw (c.as_slice-2.ensures, c.deref.ensures.value) at c.in_ok-layout.ensures.layout in
    let components = rw c.deref-2.ensures.value at c.in_ok-components.ensures in
    (components c.args.edges.now layout).are_marks
