use Rattle.plate_edges.proofs.EdgeEnds.{ends_apart}
use Rattle.plate_edges.proofs.laws.edges_are_apart.Goals as goal

pub returns : goal.returns
returns c = ends_apart
