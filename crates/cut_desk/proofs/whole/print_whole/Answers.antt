use Rattle.std.proofs.Common.{arith, ◌∙◌}
use Rattle.std.proofs.lemmas.Grind.{common_steps}
use Rattle.std.proofs.lemmas.List.{take_rest}
use Rattle.cut_desk.proofs.Pieces.{later_again, prints_on}
use Rattle.cut_desk.proofs.whole.print_whole.Goals as goal

pub loop-done-preserved : goal.loop-done-preserved
loop-done-preserved g c =
    let seen = g.D.Desk.seen in
    let kept = c.loop-done.invariant in
    let next = rw take_rest at c.in_ok-done.ensures.ok in
    record {
      within = grind (arith, common_steps);
      printed = prints_on (seen c.args.desk.now).printed (seen c.loop-done.desk).printed (seen c.print.new.self).printed c.args.bytes.now c.loop-done.done c.in_ok-done.field-0 kept.printed next;
      files = λ name. c.print.ensures.files name ∙ kept.files name;
      later = later_again (seen c.args.desk.now) (seen c.loop-done.desk) (seen c.print.new.self) kept.later c.print.ensures.later;
    }
