use Rattle.std.proofs.Common.{◌≡◌, length, map, take}
use Rattle.face_nesting.specs.Numbering.{cycle_numbers_of, face_numbers_of, face_of_cycle as face_by_definition}
use Rattle.face_nesting.proofs.numbering.faces_of.Given as goal

abbrev pub invariant-loop-cycle : goal.invariant-loop-cycle
invariant-loop-cycle l =
    face_numbers_of l.faces.items ≡ map (face_by_definition (length l.outer) (face_numbers_of l.outer)) (cycle_numbers_of (take l.cycle-index l.cycle_of))
