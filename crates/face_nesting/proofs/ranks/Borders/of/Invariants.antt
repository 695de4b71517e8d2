use Rattle.std.proofs.Common.{◌≡◌, length}
use Rattle.face_nesting.specs.Numbering.{face_numbers_of}
use Rattle.face_nesting.specs.Ranks.{AreLinked}
use Rattle.face_nesting.proofs.ranks.Borders.of.Given as goal

abbrev pub invariant-loop-s : goal.invariant-loop-s
invariant-loop-s l = record {
  lasts : length l.last.items ≡ l.count;
  befores : length l.before.items ≡ l.s;
  linked : AreLinked (face_numbers_of l.faces) l.s l.last.items l.before.items;
}
