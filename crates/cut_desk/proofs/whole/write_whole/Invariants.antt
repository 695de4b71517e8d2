use Rattle.std.proofs.Common.{◌≡◌, ◌≤◌, ◌<◌, ◌-◌, length, take}
use Rattle.cut_desk.specs.Outside.{Later, SameOthers, made_of}
use Rattle.cut_desk.proofs.whole.write_whole.Given as goal

abbrev pub invariant-loop-done : goal.invariant-loop-done
invariant-loop-done g l =
    let seen = g.D.Desk.seen in
    record {
      within : l.done ≤ length l.bytes;
      untouched : l.done ≡ 0 → (seen l.desk).held l.name ≡ (seen l.fn.desk).held l.name;
      begun : 0 < l.done → (seen l.desk).held l.name ≡ made_of ((seen l.fn.desk).held l.name) (take l.done l.bytes);
      others : SameOthers l.name (seen l.fn.desk) (seen l.desk);
      later : Later (seen l.fn.desk) (seen l.desk);
    }

abbrev pub decreases-loop-done : goal.decreases-loop-done
decreases-loop-done g l = length l.bytes - l.done
