use Rattle.plate_edges.proofs.Vertices.{no_vertex_inside}
use Rattle.plate_edges.proofs.laws.no_vertex_is_inside.Goals as goal

pub returns : goal.returns
returns c = no_vertex_inside
