use Rattle.plate_edges.proofs.Keeping.{keep_points}
use Rattle.plate_edges.proofs.laws.edges_keep_points.Goals as goal

pub returns : goal.returns
returns c = keep_points
