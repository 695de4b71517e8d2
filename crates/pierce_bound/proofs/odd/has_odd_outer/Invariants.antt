use Rattle.nest_base.specs.NumberLists.{side_numbers}
use Rattle.pierce_bound.proofs.OuterOdd.{NoneIsOdd}
use Rattle.pierce_bound.proofs.odd.has_odd_outer.Given as goal

abbrev pub invariant-loop-side : goal.invariant-loop-side
invariant-loop-side l = NoneIsOdd l.graph (side_numbers l.side-items) l.side-index
