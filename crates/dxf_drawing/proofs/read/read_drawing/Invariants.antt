use Rattle.std.proofs.Common.{◌≡◌, take, None}
use Rattle.dxf_drawing.specs.Reading.{ReaderAt}
use Rattle.dxf_drawing.proofs.read.read_drawing.Given as goal

-- the reader has taken the bytes so far
abbrev pub invariant-loop-byte : goal.invariant-loop-byte
invariant-loop-byte l = record {
  at : ReaderAt l.reader (take l.byte-index l.bytes);
  counted : l.reader.groups.taken ≡ l.byte-index;
  not_ended : l.reader.groups.answer ≡ None;
}
