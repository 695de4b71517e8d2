use Rattle.std.proofs.Common.{◌≡◌, ◌+◌, ◌-◌, length}
use Rattle.face_nesting.specs.Numbering.{face_numbers_of}
use Rattle.face_nesting.specs.Ranks.{IsSpread, unranked}
use Rattle.face_nesting.proofs.ranks.ranks_of.Given as goal

abbrev pub invariant-loop-done : goal.invariant-loop-done
invariant-loop-done l = record {
  as_many : length l.spread.ranks.items ≡ l.count;
  spread : IsSpread (face_numbers_of l.faces) l.spread.ranks.items (face_numbers_of l.spread.queue.items) l.done;
}

abbrev pub decreases-loop-done : goal.decreases-loop-done
decreases-loop-done l = unranked l.spread.ranks.items + length l.spread.queue.items - l.done
