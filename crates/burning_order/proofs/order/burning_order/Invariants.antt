use Rattle.nest_base.specs.NumberLists.{parent_numbers, component_numbers}
use Rattle.burning_order.specs.Turns.{HaveHadTurns}
use Rattle.burning_order.proofs.order.burning_order.Given as goal

abbrev pub invariant-loop-c : goal.invariant-loop-c
invariant-loop-c l = HaveHadTurns (parent_numbers l.parents) l.c (component_numbers l.order.items) l.waiting.items
