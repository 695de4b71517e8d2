use Rattle.std.proofs.Common.{ap, Err}
use Rattle.micron_decimals.specs.declared.read.NumberError.{NumberError}
use Rattle.dxf_entities.proofs.Ranges.{far_off}
use Rattle.dxf_entities.proofs.values.coordinate.Goals as goal

pub returns-in-Err-TooFar-clause-fault : goal.returns-in-Err-TooFar-clause-fault
returns-in-Err-TooFar-clause-fault c =
    far_off c.args.text.now c.args.line (c.in-Err-TooFar.ensures.too_far.0 (ap (λ (e : NumberError). Err e) c.in-Err-TooFar.field-0-is))
