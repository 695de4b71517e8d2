use Rattle.start_policy.specs.Choices.{IsWestOf}
use Rattle.start_policy.proofs.FirstSites.{west_chooses, first_in_order}
use Rattle.start_policy.proofs.policy.Policy.choose_in_order.Goals as goal

pub returns-in-Leftmost-clause-leftmost : goal.returns-in-Leftmost-clause-leftmost
returns-in-Leftmost-clause-leftmost g c is = first_in_order IsWestOf west_chooses c.args.sites.now c.requires.some c.requires.in_order
