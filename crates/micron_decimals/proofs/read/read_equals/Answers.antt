use Rattle.std.proofs.Common.{◌≡◌, Bool, Some, Option, ap, ◌∙◌}
use Rattle.std.specs.Int.{w64}
use Rattle.std.specs.Option.{ok_or}
use Rattle.std.proofs.lemmas.Int.{to_z-of_z}
use Rattle.micron_decimals.specs.Decimals.{decimal_of, equals_of, is_exactly}
use Rattle.micron_decimals.specs.declared.read.NumberError.TheVariants.{NotANumber}
use Rattle.micron_decimals.proofs.Readings.{read_gives}
use Rattle.micron_decimals.proofs.read.read_equals.Goals as goal

pub returns : goal.returns
returns c = ap (λ (o : Option Bool). ok_or o NotANumber) found
  where
    found : Some c.is_exactly.result ≡ equals_of c.args.text.now c.args.whole
    found = read_gives (λ d. is_exactly d c.args.whole) (decimal_of c.args.text.now) c.in-Some.decimal c.is_exactly.result c.in-Some.ensures
        (λ d e. c.is_exactly.ensures d e ∙ ap (λ z. is_exactly d z) (to_z-of_z w64 c.args.whole c.ranges.whole))
