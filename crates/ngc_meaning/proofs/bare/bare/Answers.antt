use Rattle.std.proofs.Common.{arith, sym, ◌∙◌}
use Rattle.ngc_meaning.proofs.Uncommented.{at_first, on_opening, on_comment, on_blank, on_other}
use Rattle.ngc_meaning.proofs.bare.bare.Goals as goal

pub bytes-init : goal.bytes-init
bytes-init c = record { room = rw c.new-text.ensures (omega arith); left = at_first c.new-text.result.items c.args.line.now c.new-text.ensures }

pub bytes-preserved-then-is_comment : goal.bytes-preserved-then-is_comment
bytes-preserved-then-is_comment c = record {
  room = omega (arith, c.bytes.invariant.room);
  left = on_comment c.bytes.text.items c.bytes.is_comment c.args.line.now c.bytes.byte-index c.if-is_comment.true c.bytes-test.true c.if-byte-eq40.false ∙ c.bytes.invariant.left;
}

pub bytes-preserved-then-byte-eq40-2 : goal.bytes-preserved-then-byte-eq40-2
bytes-preserved-then-byte-eq40-2 c = record {
  room = omega (arith, c.bytes.invariant.room);
  left = on_opening c.bytes.text.items c.bytes.is_comment c.args.line.now c.bytes.byte-index c.if-is_comment.false c.bytes-test.true c.if-byte-eq40-2.true ∙ c.bytes.invariant.left;
}

pub bytes-preserved-then-is_blank : goal.bytes-preserved-then-is_blank
bytes-preserved-then-is_blank c = record {
  room = omega (arith, c.bytes.invariant.room);
  left = on_blank c.bytes.text.items c.bytes.is_comment c.args.line.now c.bytes.byte-index c.if-is_comment.false c.bytes-test.true c.if-byte-eq40-2.false c.if-byte-eq41.false (sym c.is_blank.ensures ∙ c.if-is_blank.true) ∙ c.bytes.invariant.left;
}

pub bytes-preserved : goal.bytes-preserved
bytes-preserved c = record {
  room = omega (arith, c.bytes.invariant.room, c.push.ensures.len);
  left = rw c.push.ensures.items (on_other c.bytes.text.items c.bytes.is_comment c.args.line.now c.bytes.byte-index c.if-is_comment.false c.bytes-test.true c.if-byte-eq40-2.false c.if-byte-eq41.false (sym c.is_blank.ensures ∙ c.if-is_blank.false) ∙ c.bytes.invariant.left);
}
