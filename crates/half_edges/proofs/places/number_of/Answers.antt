use Rattle.half_edges.proofs.PlaceNumbers.{read_number}
use Rattle.half_edges.proofs.places.number_of.Goals as goal

pub returns-clause-found : goal.returns-clause-found
returns-clause-found c = read_number c.args.p c.args.places.now.keys c.in_ok-v.v c.in_ok-v.ensures.index
