use Rattle.std.proofs.Common.{◌*◌, [], take}
use Rattle.std.specs.Prelude.{All}
use Rattle.plate_edges.specs.Cuts.{CrossesOffLattice}
use Rattle.segment_split.specs.CutPoints.{AddsPlaces}
use Rattle.segment_split.proofs.CutsByAll.{IsCutByOne}
use Rattle.segment_split.proofs.cuts.cut_points.Given as goal

abbrev pub invariant-loop-other : goal.invariant-loop-other
invariant-loop-other l = record {
  added : AddsPlaces (IsCutByOne (take l.other l.segments) l.s) (2 * l.other) [] l.places.items;
  none_crosses : All (λ t. CrossesOffLattice l.s t → ⊥) (take l.other l.segments);
}
