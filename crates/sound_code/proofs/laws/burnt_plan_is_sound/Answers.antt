use Rattle.sound_code.proofs.SoundPlans.{burnt_plan_is_sound}
use Rattle.sound_code.proofs.PlanLightings.{burnt_plan_has_lightings, plan_has_first_lead_ins, plan_has_pierces, code_is_of_its_lightings}
use Rattle.sound_code.proofs.laws.burnt_plan_is_sound.Goals as goal

pub returns : goal.returns
returns c = record {
  sound = burnt_plan_is_sound;
  lightings = burnt_plan_has_lightings;
  first_lead_ins = plan_has_first_lead_ins;
  pierces = plan_has_pierces;
  own_lightings = code_is_of_its_lightings;
}
