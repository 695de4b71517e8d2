use Rattle.std.proofs.Common.{◌≡◌, ◌≤◌, ◌-◌, length, take}
use Rattle.cut_desk.specs.Outside.{Later, SameHeld, print_more}
use Rattle.cut_desk.proofs.whole.print_whole.Given as goal

abbrev pub invariant-loop-done : goal.invariant-loop-done
invariant-loop-done g l =
    let seen = g.D.Desk.seen in
    record {
      within : l.done ≤ length l.bytes;
      printed : (seen l.desk).printed ≡ print_more (seen l.fn.desk).printed (take l.done l.bytes);
      files : SameHeld (seen l.fn.desk) (seen l.desk);
      later : Later (seen l.fn.desk) (seen l.desk);
    }

abbrev pub decreases-loop-done : goal.decreases-loop-done
decreases-loop-done g l = length l.bytes - l.done
