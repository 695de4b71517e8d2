use Rattle.sound_code.proofs.FreeLeadIns.{lead_in_is_off_edges}
use Rattle.sound_code.proofs.laws.lead_in_is_off_edges.Goals as goal

pub returns : goal.returns
returns c = lead_in_is_off_edges
