use Rattle.std.proofs.Common.{◌≡◌, ◌*◌, length}
use Rattle.half_edges.proofs.RotationNumbers.{AreNumbered}
use Rattle.half_edges.proofs.layout.layout_of.Given as goal

abbrev pub invariant-loop-v : goal.invariant-loop-v
invariant-loop-v l = record {
  origins_long : length l.origins.items ≡ 2 * length l.edges;
  positions_long : length l.positions.items ≡ 2 * length l.edges;
  numbered : AreNumbered l.all l.runs.starts.items l.v l.origins.items l.positions.items;
}
