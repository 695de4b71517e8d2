use Rattle.std.proofs.Common.{refl}
use Rattle.cover_walks.proofs.Instance.{edge, edge_is_rotation_system, edge_is_covered}
use Rattle.cover_walks.proofs.laws.one_edge_is_covered.Goals as goal

pub returns : goal.returns
returns c = record { edge = edge; is_rotation = edge_is_rotation_system; divides = λ s b. refl; covered = edge_is_covered; one = refl }
