use Rattle.std.proofs.Common.{◌≡◌, ◌++◌, take}
use Rattle.half_edges.specs.Burns.{with_burnt}
use Rattle.nest_base.specs.NumberLists.{side_numbers}
use Rattle.component_route.proofs.undo.give_up_done.Given as goal

abbrev pub invariant-loop-side : goal.invariant-loop-side
invariant-loop-side l = l.graph ≡ with_burnt l.fn.graph (take l.checkpoint l.fn.graph.burnt ++ side_numbers (take l.side-index l.side-items))
