use Rattle.dxf_groups.proofs.Growth.{end_gives_rest}
use Rattle.dxf_groups.proofs.laws.end_gives_the_rest.Goals as goal

pub returns : goal.returns
returns c = end_gives_rest
