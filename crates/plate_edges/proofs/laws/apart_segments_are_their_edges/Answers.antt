use Rattle.plate_edges.proofs.ApartEdges.{apart_segments}
use Rattle.plate_edges.proofs.laws.apart_segments_are_their_edges.Goals as goal

pub returns : goal.returns
returns c = apart_segments
