-- The pieces of one segment are those between neighbours among its cut points.
use Rattle.std.proofs.Common.{arith, ◌-◌, ◌<◌, inl, List, length, Contains, refl}
use Rattle.nest_base.specs.declared.places.Point.{Point}
use Rattle.nest_base.specs.declared.places.Segment.{Segment}
use Rattle.nest_base.specs.declared.places.Edge.{Edge}
use Rattle.nest_base.specs.Order.{IsBefore}
use Rattle.nest_base.specs.Selection.{Enumerates, EnumeratesBy}
use Rattle.nest_base.proofs.Points.{on_first}
use Rattle.plate_edges.specs.Cuts.{IsCutPoint}
use Rattle.plate_edges.specs.Pieces.{IsOrderedPieceOf, HasPieces}
use Rattle.segment_split.specs.Pieces.{pieces_between}
use Rattle.plate_edges.proofs.Insides.{inside_between, between_inside}
use Rattle.segment_split.proofs.Neighbours.{piece_ends, piece_order, pieces_once, pieces_length, none_between, neighbours_are_piece}

-- these are the cut points of s, in order
abbrev pub AreCutPoints : List Segment → Segment → List Point → Type 0
AreCutPoints segments s places = EnumeratesBy IsBefore (IsCutPoint segments s) places

-- what lies between neighbours is a piece: between its ends comes no cut point
piece_is_ordered : (segments : List Segment) (s : Segment) (places : List Point) → AreCutPoints segments s places → (e : Edge) → Contains (pieces_between places) e → IsOrderedPieceOf segments s e
piece_is_ordered segments s places cuts e c =
    let order : IsBefore e.low e.high = piece_order places cuts.in_order e c in
    let ends = piece_ends places e c in (
      order,
      record {
        low_cut = (cuts.are_all e.low).0 ends.0;
        high_cut = (cuts.are_all e.high).0 ends.1;
        uncut = λ q cut inside.
            let between = between_inside e.low q e.high order inside in
            none_between places cuts.in_order e c q ((cuts.are_all q).1 cut) between.0 between.1;
      },
    )

-- and the ends of a piece are neighbours
ordered_is_piece : (segments : List Segment) (s : Segment) (places : List Point) → AreCutPoints segments s places → (e : Edge) → IsOrderedPieceOf segments s e → Contains (pieces_between places) e
ordered_is_piece segments s places cuts e (order, piece) =
    neighbours_are_piece places cuts.in_order e ((cuts.are_all e.low).1 piece.low_cut) ((cuts.are_all e.high).1 piece.high_cut) order
    (λ q among low high.
    let cut : IsCutPoint segments s q = (cuts.are_all q).0 among in
    piece.uncut q cut (inside_between s.a s.b e.low q e.high piece.low_cut.0 cut.0 piece.high_cut.0 low high))

-- so the pieces between neighbours are all pieces, each once
pub pieces_of_one : (segments : List Segment) (s : Segment) (places : List Point) → AreCutPoints segments s places → Enumerates (IsOrderedPieceOf segments s) (pieces_between places)
pieces_of_one segments s places cuts = record {
  each_once = pieces_once places cuts.in_order;
  are_all = λ e. (piece_is_ordered segments s places cuts e, ordered_is_piece segments s places cuts e);
}

-- which are one less than the cut points
pub has_pieces : (segments : List Segment) (s : Segment) (places : List Point) → AreCutPoints segments s places → HasPieces segments s (length places - 1)
has_pieces segments s places cuts = (pieces_between places, pieces_of_one segments s places cuts, pieces_length places)

-- a segment has a cut point: its first end
pub some_cut : (segments : List Segment) (s : Segment) → Contains segments s → (places : List Point) → AreCutPoints segments s places → 0 < length places
some_cut segments s among places cuts =
    let found : Contains places s.a = (cuts.are_all s.a).1 (on_first s.a s.b, inl (s, among, inl refl)) in omega (arith, found.1)
