use Rattle.plate_edges.proofs.Counts.{one_number_of_pieces}
use Rattle.plate_edges.proofs.laws.pieces_are_one_number.Goals as goal

pub returns : goal.returns
returns c = one_number_of_pieces
