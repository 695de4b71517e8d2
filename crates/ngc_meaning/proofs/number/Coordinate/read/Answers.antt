use Rattle.std.proofs.Common.{Err, ap}
use Rattle.ngc_meaning.proofs.Coordinates.{unread_is_too_far}
use Rattle.ngc_meaning.proofs.number.Coordinate.read.Goals as goal

pub returns-in-Err : goal.returns-in-Err
returns-in-Err c = unread_is_too_far c.args.number.now c.in-Err.field-0 (λ e. c.in-Err.ensures.not_a_number.0 (ap Err e)) (λ e. c.in-Err.ensures.too_far.0 (ap Err e))
