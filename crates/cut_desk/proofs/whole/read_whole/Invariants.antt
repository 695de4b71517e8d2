use Rattle.std.proofs.Common.{◌≡◌, ◌≤◌, ◌+◌, ◌-◌, Some, None, vec_len}
use Rattle.cut_desk.specs.Outside.{Later, SameFiles, WhereTold}
use Rattle.cut_desk.proofs.Pieces.{BeginsWith}
use Rattle.cut_desk.proofs.whole.read_whole.Given as goal

abbrev pub invariant-loop-piece : goal.invariant-loop-piece
invariant-loop-piece g l =
    let seen = g.D.Desk.seen in
    record {
      same : SameFiles (seen l.fn.desk) (seen l.desk);
      later : Later (seen l.fn.desk) (seen l.desk);
      front : WhereTold ((seen l.fn.desk).held l.name) (λ file. BeginsWith file l.bytes.items);
      absent : (seen l.fn.desk).held l.name ≡ Some None → vec_len l.bytes ≡ 0;
      short : vec_len l.bytes ≤ l.limit + 1;
    }

abbrev pub decreases-loop-piece : goal.decreases-loop-piece
decreases-loop-piece g l = l.limit + 1 - vec_len l.bytes
