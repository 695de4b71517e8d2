-- The faces across the half-edges that were gone through have a rank.
use Rattle.std.proofs.Common.{ℕ}
use Rattle.face_nesting.specs.Numbering.{face_numbers_of}
use Rattle.face_nesting.specs.Ranks.{behind}
use Rattle.face_nesting.proofs.Crossings.{IsCrossing}
use Rattle.face_nesting.proofs.ranks.Spread.cross_from.Given as goal

abbrev pub invariant-loop-at : goal.invariant-loop-at
invariant-loop-at l =
    (f : ℕ) × IsCrossing (face_numbers_of l.faces) l.place f l.rank l.initial.self.ranks.items (face_numbers_of l.initial.self.queue.items) l.at l.self.ranks.items
    (face_numbers_of l.self.queue.items)

abbrev pub decreases-loop-at : goal.decreases-loop-at
decreases-loop-at l = behind l.at
