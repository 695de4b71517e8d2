use Rattle.dxf_groups.proofs.Refusals.{refusal_has_come}
use Rattle.dxf_groups.proofs.laws.refusal_comes_at_once.Goals as goal

pub returns : goal.returns
returns c = refusal_has_come
