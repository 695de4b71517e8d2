use Rattle.nest_base.specs.Range.{range}
use Rattle.nest_commands.proofs.output.edges_of.Goals as goal

pub returns-in-Ok-clause-within : goal.returns-in-Ok-clause-within
returns-in-Ok-clause-within c = c.in-Ok.ensures.within range c.requires.within
