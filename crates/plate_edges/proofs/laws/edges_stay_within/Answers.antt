use Rattle.plate_edges.proofs.Ranges.{stay_within}
use Rattle.plate_edges.proofs.laws.edges_stay_within.Goals as goal

pub returns : goal.returns
returns c = stay_within
