use Rattle.std.proofs.Common.{◌≡◌, length}
use Rattle.face_nesting.specs.Numbering.{cycle_numbers_of, face_numbers_of, sight_numbers_of}
use Rattle.face_nesting.proofs.CycleFaces.{AreFirstFaces}
use Rattle.face_nesting.proofs.numbering.outer_faces.Given as goal

abbrev pub invariant-loop-sight : goal.invariant-loop-sight
invariant-loop-sight l = record {
  as_many : length l.outer.items ≡ l.sight-index;
  faces : AreFirstFaces l.sight-index (cycle_numbers_of l.cycle_of) (sight_numbers_of l.sights) (length l.sights) (face_numbers_of l.outer.items);
}
