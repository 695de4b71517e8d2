use Rattle.dxf_groups.proofs.Growth.{come_one_by_one}
use Rattle.dxf_groups.proofs.laws.pairs_come_one_by_one.Goals as goal

pub returns : goal.returns
returns c = come_one_by_one
