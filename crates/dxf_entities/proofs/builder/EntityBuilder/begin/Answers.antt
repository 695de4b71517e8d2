use Rattle.std.proofs.Common.{rules, refl}
use Rattle.dxf_entities.proofs.Begun.{begun}
use Rattle.dxf_entities.proofs.builder.EntityBuilder.begin.Goals as goal

pub returns : goal.returns
returns c =
    begun _ _ c.trimmed-name.result.now c.trimmed-name.ensures c.shape_named.ensures c.new.ensures refl (search rules) c.closes.ensures (refl, refl, refl, refl, c.new-2.ensures.none)
