use Rattle.std.proofs.Common.{arith}
use Rattle.std.proofs.lemmas.Int.{ints}
use Rattle.face_nesting.proofs.SeenSoFar.{down_is_low, down_is_high}
use Rattle.face_nesting.proofs.sights.downward.Goals as goal

pub returns-then-e : goal.returns-then-e
returns-then-e c = λ edges d at down. down_is_high edges c.args.k c.args.e.now d at down (omega (arith, ints, c.if-e.true))

pub returns-else-e : goal.returns-else-e
returns-else-e c = λ edges d at down. down_is_low edges c.args.k c.args.e.now d at down (λ up. omega (arith, ints, up, c.if-e.false))
