use Rattle.sound_code.proofs.NearStarts.{first_lead_ins_are_near}
use Rattle.sound_code.proofs.WritableChains.{chains_can_be_written}
use Rattle.sound_code.proofs.laws.chains_can_be_written.Goals as goal

pub returns : goal.returns
returns c = record { written = chains_can_be_written; near = first_lead_ins_are_near }
