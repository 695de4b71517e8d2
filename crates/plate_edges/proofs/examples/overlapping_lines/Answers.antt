use Rattle.plate_edges.proofs.Overlapping.{shared_of_lower, shared_of_upper, lower_is_cut, four_pieces, three_edges}
use Rattle.plate_edges.proofs.examples.overlapping_lines.Goals as goal

pub returns-clause-of_the_first : goal.returns-clause-of_the_first
returns-clause-of_the_first c = shared_of_lower

pub returns-clause-of_the_second : goal.returns-clause-of_the_second
returns-clause-of_the_second c = shared_of_upper

pub returns-clause-not_the_whole : goal.returns-clause-not_the_whole
returns-clause-not_the_whole c = lower_is_cut

pub returns-clause-pieces : goal.returns-clause-pieces
returns-clause-pieces c = four_pieces

pub returns-clause-edges : goal.returns-clause-edges
returns-clause-edges c = three_edges
