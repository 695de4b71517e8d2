use Rattle.std.proofs.Common.{rules, arith, ◌≡◌, ◌++◌, ◌≤◌, ◌∙◌, take, drop, length}
use Rattle.std.proofs.lemmas.Bool.{false≢true}
use Rattle.std.proofs.lemmas.List.{take-append-le}
use Rattle.std.proofs.lemmas.Grind.{common_steps}
use Rattle.cut_desk.proofs.Pieces.{told_front_grows, later_again, same_again}
use Rattle.cut_desk.proofs.whole.read_whole.Goals as goal

pub loop-piece-preserved : goal.loop-piece-preserved
loop-piece-preserved g c =
    let seen = g.D.Desk.seen in
    let kept = c.loop-piece.invariant in
    let before = seen c.loop-piece.desk in
    let grown : c.extend_from_slice.new.self.items ≡ c.loop-piece.bytes.items ++ take c.in-Ok.count (c.read.new.into ++ drop c.min-wanted.result c.loop-piece.piece) = grind (arith, common_steps) in
    let room : c.in-Ok.count ≤ length c.read.new.into = c.in-Ok.ensures.count in
    let at : c.len-at.result ≡ length c.loop-piece.bytes.items = search rules in
    let piece = rw (kept.same.files c.args.name.now, at) at c.in-Ok.ensures.piece in
    record {
      same = same_again (seen c.args.desk.now) before (seen c.read.new.self) kept.same c.read.ensures.same;
      later = later_again (seen c.args.desk.now) before (seen c.read.new.self) kept.later c.read.ensures.later;
      front = rw (grown, take-append-le c.in-Ok.count c.read.new.into (drop c.min-wanted.result c.loop-piece.piece) room) (told_front_grows ((seen c.args.desk.now).held c.args.name.now) c.loop-piece.bytes.items c.read.new.into c.in-Ok.count room kept.front piece);
      absent = λ none. absurd (false≢true (c.in-Ok.ensures.absent (kept.same.files c.args.name.now ∙ none)));
      short = grind (arith, common_steps);
    }
