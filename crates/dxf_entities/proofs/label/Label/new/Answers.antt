use Rattle.dxf_entities.proofs.Cuts.{front_copied}
use Rattle.dxf_entities.proofs.label.Label.new.Goals as goal

pub returns : goal.returns
returns c = front_copied c.args.name.now c.copy_from_slice.new.self _ c.min-count.result c.min-count.ensures c.copy_from_slice.ensures.after
