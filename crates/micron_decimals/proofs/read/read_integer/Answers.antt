use Rattle.std.proofs.Common.{arith, ◌≡◌, ◌≤◌, ◌<◌, ◌^◌, ℤ, length, Option, Some, Ok, to_z, of_z, sym, ap, subst, ◌∙◌}
use Rattle.std.specs.Prelude.{unsigned_abs}
use Rattle.std.specs.Int.{w64, w128}
use Rattle.std.specs.Option.{ok_or}
use Rattle.std.specs.Str.Parse.{without_leading_sign}
use Rattle.std.proofs.lemmas.Int.{ints}
use Rattle.micron_decimals.specs.Decimals.{signed_of, integer_of}
use Rattle.micron_decimals.specs.declared.read.NumberError.TheVariants.{NotANumber}
use Rattle.micron_decimals.proofs.Readings.{short_is_read, integer_is}
use Rattle.micron_decimals.proofs.read.read_integer.Goals as goal
use Rattle.micron_decimals.proofs.read.read_integer.Goals.{In-Some}

short : (c : In-Some) → length (without_leading_sign c.trimmed-text.result.now) ≤ 9
short c = subst (λ ds. length ds ≤ 9) c.split_sign.ensures.rest c.if-digits-gt9.false

read : (c : In-Some) → (signed_of c.trimmed-text.result.now ≡ Some c.in-Some.n) × (unsigned_abs c.in-Some.n < 10 ^ 9)
read c = short_is_read c.trimmed-text.result.now c.in-Some.n (short c) c.in-Some.ensures

pub overflow_cast-result : goal.overflow_cast-result
overflow_cast-result c = let small = (read (goal.at.overflow_cast-result c).In-Some).1 in omega (arith, ints, small)

pub returns : goal.returns
returns c =
    let is = read (goal.at.returns c).In-Some in
    let same : to_z w64 (of_z w64 (to_z w128 (of_z w128 c.in-Some.n))) ≡ c.in-Some.n = omega (arith, ints, is.1) in
    let few = subst (λ t. length (without_leading_sign t) ≤ 9) c.trimmed-text.ensures (short (goal.at.returns c).In-Some) in
    let found : integer_of c.args.text.now ≡ Some c.in-Some.n = integer_is c.args.text.now few ∙ ap (λ t. signed_of t) (sym c.trimmed-text.ensures) ∙ is.0 in
    ap (λ z. Ok z) same ∙ ap (λ (o : Option ℤ). ok_or o NotANumber) (sym found)
