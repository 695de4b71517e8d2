use Rattle.dxf_groups.proofs.Growth.{refusal_that_came_stays}
use Rattle.dxf_groups.proofs.laws.refusal_stays.Goals as goal

pub returns : goal.returns
returns c = refusal_that_came_stays
