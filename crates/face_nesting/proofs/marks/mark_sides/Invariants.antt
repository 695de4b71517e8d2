use Rattle.std.proofs.Common.{take}
use Rattle.nest_base.specs.NumberLists.{side_numbers}
use Rattle.face_nesting.specs.Sights.{AreMarkSides}
use Rattle.face_nesting.proofs.marks.mark_sides.Given as goal

abbrev pub invariant-loop-c : goal.invariant-loop-c
invariant-loop-c l = AreMarkSides l.graph.edges (take l.c l.graph.marks) (side_numbers l.sides.items)
