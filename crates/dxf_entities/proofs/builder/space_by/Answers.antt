use Rattle.std.proofs.Common.{◌≡◌, pos, arith}
use Rattle.std.proofs.lemmas.Int.{ints}
use Rattle.dxf_entities.proofs.Noted.{space_told}
use Rattle.dxf_entities.proofs.builder.space_by.Goals as goal

pub returns : goal.returns
returns c =
    let same : c.args.code ≡ pos 67 = omega (arith, ints) in
    space_told c.args.known (record { code = c.args.code; value = c.args.text.now; line = c.args.line }) c.space_at.result c.in_default.is same (c.space_at.ensures c.args.code)
