use Rattle.std.proofs.Common.{arith, ◌<◌}
use Rattle.std.proofs.lemmas.Grind.{common_steps}
use Rattle.std.proofs.lemmas.List.{take_rest}
use Rattle.cut_desk.proofs.Pieces.{later_again, others_again, writes_on}
use Rattle.cut_desk.proofs.whole.write_whole.Goals as goal

pub loop-done-preserved : goal.loop-done-preserved
loop-done-preserved g c =
    let seen = g.D.Desk.seen in
    let kept = c.loop-done.invariant in
    let name = c.args.name.now in
    let count = c.in_ok-done.field-0 in
    let some : 0 < count = c.in_ok-done.ensures.count.1 (grind (arith, common_steps)) in
    let next = rw take_rest at c.in_ok-done.ensures.ok in
    record {
      within = grind (arith, common_steps);
      untouched = λ none. absurd (omega (arith, none, some));
      begun = λ _. writes_on ((seen c.args.desk.now).held name) ((seen c.loop-done.desk).held name) ((seen c.write.new.self).held name) c.args.bytes.now c.loop-done.done count kept.within kept.untouched kept.begun next;
      others = others_again name (seen c.args.desk.now) (seen c.loop-done.desk) (seen c.write.new.self) kept.others c.write.ensures.others;
      later = later_again (seen c.args.desk.now) (seen c.loop-done.desk) (seen c.write.new.self) kept.later c.write.ensures.later;
    }
