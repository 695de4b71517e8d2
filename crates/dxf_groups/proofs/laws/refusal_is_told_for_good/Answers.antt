use Rattle.dxf_groups.proofs.ToldForGood.{take_stays, end_stays}
use Rattle.dxf_groups.proofs.laws.refusal_is_told_for_good.Goals as goal

pub returns-clause-take : goal.returns-clause-take
returns-clause-take c = take_stays

pub returns-clause-end : goal.returns-clause-end
returns-clause-end c = end_stays
