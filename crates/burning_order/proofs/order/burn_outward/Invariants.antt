use Rattle.nest_base.specs.NumberLists.{parent_numbers, component_numbers}
use Rattle.burning_order.proofs.Outward.{IsNextOf}
use Rattle.burning_order.proofs.order.burn_outward.Given as goal

abbrev pub invariant-loop-p : goal.invariant-loop-p
invariant-loop-p l = IsNextOf (parent_numbers l.parents) l.fn.leaf.0 l.c.0 (component_numbers l.order.items) l.waiting

abbrev pub decreases-loop-p : goal.decreases-loop-p
decreases-loop-p l = l.c.0
