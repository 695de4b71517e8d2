use Rattle.std.proofs.Common.{arith, ◌≡◌, ◌≤◌, ◌<◌, ◌^◌, ◌/◌, ap, length, ◌∙◌}
use Rattle.std.specs.Fmt.{decimal}
use Rattle.std.proofs.lemmas.Fmt.{length-decimal-le}
use Rattle.micron_decimals.proofs.write.write_micron.Goals as goal

-- the whole millimetres have at most 16 digits
pub put-requires : goal.put-requires
put-requires c =
    let size = c.unsigned_abs-size.result in
    let bound : size / 1000 < 10 ^ 16 = omega (arith, c.unsigned_abs-size.ensures.bound) in
    let digits : length (decimal (size / 1000)) ≤ 16 = length-decimal-le 16 (size / 1000) (omega arith) bound (omega (arith, bound)) in
    let whole : length c.as_bytes.result.now ≡ length (decimal (size / 1000)) = c.as_bytes.ensures.len ∙ ap length c.format.ensures.text in
    let part : length c.three.result ≡ 3 = ap length c.three.ensures in
    omega (arith, digits, whole, part, c.sign.ensures.short, c.put-at.ensures.place, c.put-at-2.ensures.place, c.put-at-3.ensures.place)
