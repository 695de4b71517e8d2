use Rattle.std.proofs.Common.{arith}
use Rattle.std.proofs.lemmas.List.{length-map}
use Rattle.face_nesting.specs.Numbering.{face_numbers_of}
use Rattle.face_nesting.proofs.NumbersOf.{face_number}
use Rattle.face_nesting.proofs.RankDistances.{are_distances}
use Rattle.face_nesting.proofs.ranks.ranks_of.Goals as goal

pub loop-done-init : goal.loop-done-init
loop-done-init c = record { as_many = c.in_ok-spread.ensures.as_many; spread = c.in_ok-spread.ensures.spread (face_numbers_of c.args.faces.now) }

pub returns-clause-distances : goal.returns-clause-distances
returns-clause-distances c = are_distances c.loop-done.invariant.spread (omega (arith, length-map c.loop-done.spread.queue.items face_number))
