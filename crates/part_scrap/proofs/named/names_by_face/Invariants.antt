use Rattle.std.proofs.Common.{take}
use Rattle.face_nesting.specs.Numbering.{face_numbers_of}
use Rattle.part_scrap.specs.Naming.{AreNamesOf}
use Rattle.part_scrap.proofs.named.names_by_face.Given as goal

abbrev pub invariant-loop-i : goal.invariant-loop-i
invariant-loop-i l = AreNamesOf l.count (take l.i (face_numbers_of l.named)) l.by_face.items
