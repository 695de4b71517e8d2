-- The distances of faces by number are the ranks of the faces of a plane graph.
use Rattle.std.proofs.Common.{◌≡◌, List, ℕ, length}
use Rattle.std.specs.Prelude.{Some, slice_get}
use Rattle.plate_sides.specs.Nesting.{HasMarkSides}
use Rattle.half_edges.specs.Numbers.{half_edges_of}
use Rattle.half_edges.specs.Graph.{Graph}
use Rattle.half_edges.specs.PlaneGraphs.{IsPlaneGraph}
use Rattle.half_edges.proofs.Numbers.{side_is_half_edge}
use Rattle.face_nesting.specs.Numbering.{outer_face}
use Rattle.face_nesting.specs.Nesting.{AreFaces, AreRanks}
use Rattle.face_nesting.specs.Ranks.{AreDistances}
use Rattle.face_nesting.proofs.RankWalks.{is_rank}
use Rattle.face_nesting.proofs.WaysOut.{each_reaches}

pub are_ranks : {graph : Graph} (faces ranks : List ℕ) → IsPlaneGraph graph → HasMarkSides graph.edges → length faces ≡ length (half_edges_of graph.edges) → AreFaces graph.edges faces →
    slice_get ranks outer_face ≡ Some 0 → AreDistances faces ranks → AreRanks graph.edges faces ranks
are_ranks {graph} faces ranks known sides as_many are outer distances = record {
  outer = outer;
  each = λ s h is. is_rank as_many are ranks distances s h is (each_reaches graph.edges graph.marks known.are_marks known.round sides h (side_is_half_edge graph.edges s h is));
}
