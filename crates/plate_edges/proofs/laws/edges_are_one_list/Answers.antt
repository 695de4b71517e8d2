use Rattle.plate_edges.proofs.OneList.{one_list}
use Rattle.plate_edges.proofs.laws.edges_are_one_list.Goals as goal

pub returns : goal.returns
returns c = one_list
