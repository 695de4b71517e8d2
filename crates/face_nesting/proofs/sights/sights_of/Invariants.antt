use Rattle.std.proofs.Common.{take}
use Rattle.face_nesting.specs.Numbering.{sight_numbers_of}
use Rattle.face_nesting.specs.Sights.{AreSights}
use Rattle.face_nesting.proofs.sights.sights_of.Given as goal

abbrev pub invariant-loop-c : goal.invariant-loop-c
invariant-loop-c l = AreSights l.edges (take l.c l.graph.marks) (sight_numbers_of l.sights.items)
