use Rattle.std.proofs.Common.{All, ◌≢◌, ℕ, List, length, ◌≤◌, arith, ◌+◌, inr, take, ap, ◌∙◌, sym, subst}
use Rattle.std.proofs.lemmas.List.{take_all, take_more}
use Rattle.std.proofs.lemmas.Result.{IfOk-weaker, IfErr-weaker}
use Rattle.dxf_drawing.specs.declared.reader.Reader.{Reader}
use Rattle.dxf_drawing.specs.Reading.{ReaderAt, IsAtTheEnd}
use Rattle.nest_base.specs.declared.places.Segment.{Segment}
use Rattle.dxf_drawing.proofs.Lengths.{segments_have_length}
use Rattle.dxf_drawing.proofs.read.read_drawing.Goals as goal

-- the bytes that were taken are all
all_taken : (r : Reader) (b : List ℕ) (n : ℕ) → length b ≤ n → IsAtTheEnd r (take n b) → IsAtTheEnd r b
all_taken r b n h at = subst (λ l. IsAtTheEnd r l) (take_all n b h) at

pub loop-byte-preserved : goal.loop-byte-preserved
loop-byte-preserved c =
    let at = c.in_ok-take.ensures.at (take c.loop-byte.byte-index c.args.bytes.now) c.loop-byte.invariant.at in
    record {
      at = subst (λ b. ReaderAt c.take.new.self b) (sym (take_more c.args.bytes.now c.loop-byte.byte-index 0 c.loop-byte-test.true)) at;
      counted = c.take.ensures.counted ∙ ap (λ n. n + 1) c.loop-byte.invariant.counted;
      not_ended = c.take.ensures.not_ended;
    }

pub returns-clause-accepted : goal.returns-clause-accepted
returns-clause-accepted c = IfOk-weaker c.into_drawing.result _ _ (λ drawing read. (read c.args.bytes.now (all_taken c.end.new.self c.args.bytes.now c.loop-byte.byte-index (omega arith) (c.in_ok-end.ensures (take c.loop-byte.byte-index c.args.bytes.now) c.loop-byte.invariant.at))).accepted) c.into_drawing.ensures.ok

pub returns-clause-segments : goal.returns-clause-segments
returns-clause-segments c = IfOk-weaker c.into_drawing.result _ _ (λ drawing read. (read c.args.bytes.now (all_taken c.end.new.self c.args.bytes.now c.loop-byte.byte-index (omega arith) (c.in_ok-end.ensures (take c.loop-byte.byte-index c.args.bytes.now) c.loop-byte.invariant.at))).segments) c.into_drawing.ensures.ok

pub returns-clause-names : goal.returns-clause-names
returns-clause-names c = IfOk-weaker c.into_drawing.result _ _ (λ drawing read. (read c.args.bytes.now (all_taken c.end.new.self c.args.bytes.now c.loop-byte.byte-index (omega arith) (c.in_ok-end.ensures (take c.loop-byte.byte-index c.args.bytes.now) c.loop-byte.invariant.at))).names) c.into_drawing.ensures.ok

pub returns-clause-most_segments : goal.returns-clause-most_segments
returns-clause-most_segments c = IfOk-weaker c.into_drawing.result _ _ (λ drawing read. (read c.args.bytes.now (all_taken c.end.new.self c.args.bytes.now c.loop-byte.byte-index (omega arith) (c.in_ok-end.ensures (take c.loop-byte.byte-index c.args.bytes.now) c.loop-byte.invariant.at))).most_segments) c.into_drawing.ensures.ok

pub returns-clause-most_names : goal.returns-clause-most_names
returns-clause-most_names c = IfOk-weaker c.into_drawing.result _ _ (λ drawing read. (read c.args.bytes.now (all_taken c.end.new.self c.args.bytes.now c.loop-byte.byte-index (omega arith) (c.in_ok-end.ensures (take c.loop-byte.byte-index c.args.bytes.now) c.loop-byte.invariant.at))).most_names) c.into_drawing.ensures.ok

pub returns-clause-refused : goal.returns-clause-refused
returns-clause-refused c = IfErr-weaker c.into_drawing.result _ _ (λ why refused. inr (refused c.args.bytes.now (all_taken c.end.new.self c.args.bytes.now c.loop-byte.byte-index (omega arith) (c.in_ok-end.ensures (take c.loop-byte.byte-index c.args.bytes.now) c.loop-byte.invariant.at)))) c.into_drawing.ensures.err

pub returns-clause-lengths : goal.returns-clause-lengths
returns-clause-lengths c = IfOk-weaker c.into_drawing.result _ _ (λ drawing same. subst (All (λ (s : Segment). s.a ≢ s.b)) (sym same) (segments_have_length c.args.bytes.now)) (returns-clause-segments c)
