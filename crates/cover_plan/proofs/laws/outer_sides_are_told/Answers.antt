use Rattle.cover_plan.proofs.OuterNumbers.{outer_sides_are_told, outer_vertices_are_told}
use Rattle.cover_plan.proofs.laws.outer_sides_are_told.Goals as goal

pub returns-clause-sides : goal.returns-clause-sides
returns-clause-sides c = outer_sides_are_told

pub returns-clause-vertices : goal.returns-clause-vertices
returns-clause-vertices c = outer_vertices_are_told
