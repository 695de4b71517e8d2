use Rattle.std.proofs.Common.{arith, ◌≡◌, ◌<◌, ◌+◌, length}
use Rattle.nest_base.proofs.ListReads.{read_below}
use Rattle.pierce_bound.proofs.Summed.{AreSummed, one_more_bound, summed_few}
use Rattle.pierce_bound.proofs.NoFewer.{no_fewer}
use Rattle.pierce_bound.proofs.limits.total_bound.Goals as goal
use Rattle.pierce_bound.proofs.limits.total_bound.Goals.{After-bound-total}

-- with the bound of one component more
next : (c : After-bound-total) → AreSummed c.args.graph.now (c.loop-c.c + 1) (c.loop-c.total + c.bound-total.result)
next c =
    let graph = c.args.graph.now in
    let within : c.loop-c.c < length graph.marks = omega (arith, c.component_count-c-end.ensures.count, c.loop-c-test.true) in
    let mark = read_below graph.marks c.loop-c.c within in
    one_more_bound graph c.loop-c.c c.loop-c.total c.bound-total.result mark.0 c.graph_is_plane.ensures c.loop-c.invariant mark.1 (c.bound-total.ensures.bound mark.0 mark.1)

pub overflow_add-total : goal.overflow_add-total
overflow_add-total c =
    omega (
      arith,
      summed_few c.args.graph.now (c.loop-c.c + 1) (c.loop-c.total + c.bound-total.result) c.graph_is_plane.ensures (next c),
      c.loop-c-test.true,
      c.component_count-c-end.ensures.count,
      c.component_count-c-end.ensures.few,
    )

pub loop-c-preserved : goal.loop-c-preserved
loop-c-preserved c = next c

pub returns-clause-none_undercuts : goal.returns-clause-none_undercuts
returns-clause-none_undercuts c =
    let graph = c.args.graph.now in
    let all : c.loop-c.c ≡ length graph.marks = omega (arith, c.component_count-c-end.ensures.count, c.loop-c-test.false, c.loop-c.auto.c-end) in
    no_fewer c.graph_is_plane.ensures c.loop-c.c c.loop-c.total all c.loop-c.invariant
