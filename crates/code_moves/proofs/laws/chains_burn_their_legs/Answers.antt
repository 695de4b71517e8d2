use Rattle.code_moves.proofs.BurntLegs.{legs_are_burnt, lead_ins_are_burnt}
use Rattle.code_moves.proofs.laws.chains_burn_their_legs.Goals as goal

pub returns-clause-legs : goal.returns-clause-legs
returns-clause-legs c = legs_are_burnt

pub returns-clause-lead_in : goal.returns-clause-lead_in
returns-clause-lead_in c = lead_ins_are_burnt
