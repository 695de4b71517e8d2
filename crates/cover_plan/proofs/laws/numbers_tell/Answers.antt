use Rattle.cover_plan.proofs.CoverNumbers.{covers_are_component_covers, covers_end_at_their_start}
use Rattle.cover_plan.proofs.laws.numbers_tell.Goals as goal

pub returns-clause-component_cover : goal.returns-clause-component_cover
returns-clause-component_cover c = covers_are_component_covers

pub returns-clause-ends : goal.returns-clause-ends
returns-clause-ends c = covers_end_at_their_start
