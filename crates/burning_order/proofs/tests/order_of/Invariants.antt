use Rattle.std.proofs.Common.{◌≡◌, length}
use Rattle.plate_nesting.specs.Order.{ParentsComeFirst}
use Rattle.nest_base.specs.NumberLists.{parent_numbers}
use Rattle.burning_order.proofs.tests.order_of.Given as goal

abbrev pub invariant-loop-parent : goal.invariant-loop-parent
invariant-loop-parent l = (length l.list.items ≡ l.parent-index) × ParentsComeFirst (parent_numbers l.list.items)
