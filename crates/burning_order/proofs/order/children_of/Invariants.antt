use Rattle.nest_base.specs.NumberLists.{parent_numbers}
use Rattle.burning_order.proofs.Children.{AreCounted}
use Rattle.burning_order.proofs.order.children_of.Given as goal

abbrev pub invariant-loop-parent : goal.invariant-loop-parent
invariant-loop-parent l = AreCounted (parent_numbers l.parents) l.parent-index l.children.items
