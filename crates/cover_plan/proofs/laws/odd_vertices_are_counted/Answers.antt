use Rattle.cover_plan.proofs.OddVertices.{odd_vertices_are_counted}
use Rattle.cover_plan.proofs.laws.odd_vertices_are_counted.Goals as goal

pub returns : goal.returns
returns c = odd_vertices_are_counted
