-- What holds of the segments that have been cut so far.
use Rattle.std.proofs.Common.{arith, ◌≡◌, ℕ, ◌+◌, ◌*◌, ◌-◌, ◌<◌, ◌≤◌, ◌↔◌, inl, inr, List, [], ◌∷◌, ◌++◌, length, take, get_or, Contains, sym, subst, length-append}
use Rattle.std.specs.Prelude.{All, sum}
use Rattle.std.specs.List.{AllZip}
use Rattle.std.proofs.lemmas.List.{take_more}
use Rattle.std.proofs.lemmas.List.Elements.{All-contains, All-push, Contains-append_left, Contains-append_right, Contains-append_cases, Contains-push, Contains-push_cases}
use Rattle.std.proofs.lemmas.List.Sums.{sum_by-append}
use Rattle.nest_base.specs.declared.places.Point.{Point}
use Rattle.nest_base.specs.declared.places.Segment.{Segment}
use Rattle.nest_base.specs.declared.places.Edge.{Edge}
use Rattle.nest_base.specs.Selection.{Enumerates, EnumeratesBy}
use Rattle.nest_base.specs.Order.{IsBefore}
use Rattle.nest_base.specs.Limits.{most_segments, most_edges}
use Rattle.nest_base.proofs.Lists.{AllZip-append, All-from_contains}
use Rattle.plate_edges.specs.Cuts.{CrossesOffLattice, NoneCrossesOffLattice}
use Rattle.plate_edges.specs.Edges.{IsEdge, IsEdgeBefore, AreEdgesOf}
use Rattle.plate_edges.specs.Pieces.{IsOrderedPieceOf, HasPieces}
use Rattle.segment_split.specs.Pieces.{pieces_between}
use Rattle.segment_split.proofs.Deduplicated.{enumerates_too}
use Rattle.segment_split.proofs.Neighbours.{pieces_length}
use Rattle.segment_split.proofs.PiecesOfOne.{AreCutPoints, pieces_of_one, has_pieces}

-- these of the segments have n pieces in all
abbrev pub SomeHavePieces : List Segment → List Segment → ℕ → Type 0
SomeHavePieces segments some n = (counts : List ℕ) × AllZip (HasPieces segments) some counts × (sum counts ≡ n)

-- e is a piece of one of these segments
abbrev pub IsPieceOfOne : List Segment → List Segment → Edge → Type 0
IsPieceOfOne segments some e = (s : Segment) × Contains some s × IsOrderedPieceOf segments s e

-- s crosses none of the segments off the lattice
abbrev pub CrossesNone : List Segment → Segment → Type 0
CrossesNone segments s = All (λ t. CrossesOffLattice s t → ⊥) segments

-- some of the segments have been cut: they cross none off the lattice, have so many pieces, and these are all of them, unless they
-- are too many
pub record AreCut (segments some : List Segment) (edges : List Edge) (count : ℕ) : Type 0 where
  pub on_lattice : All (CrossesNone segments) some
  pub have_pieces : SomeHavePieces segments some count
  pub few : count ≤ 40000 * length some
  pub as_many : count ≤ most_edges → length edges ≡ count
  pub are_all : count ≤ most_edges → (e : Edge) → Contains edges e ↔ IsPieceOfOne segments some e

-- one segment more has so many more pieces
more_pieces : (segments some : List Segment) (s : Segment) (count n : ℕ) → SomeHavePieces segments some count → HasPieces segments s n → SomeHavePieces segments (some ++ s ∷ []) (count + n)
more_pieces segments some s count n (counts, each, total) own =
    (counts ++ n ∷ [], AllZip-append (HasPieces segments) some (s ∷ []) counts (n ∷ []) each (own, tt), omega (arith, total, sum_by-append (λ k. k) counts (n ∷ [])))

-- and so many more edges, of which some may be there already
more_edges : (segments some : List Segment) (s : Segment) (places : List Point) (edges : List Edge) → AreCutPoints segments s places →
    ((e : Edge) → Contains edges e ↔ IsPieceOfOne segments some e) → (e : Edge) → Contains (edges ++ pieces_between places) e ↔ IsPieceOfOne segments (some ++ s ∷ []) e
more_edges segments some s places edges cuts so_far e = (to, from)
  where
    own : Enumerates (IsOrderedPieceOf segments s) (pieces_between places)
    own = pieces_of_one segments s places cuts

    to : Contains (edges ++ pieces_between places) e → IsPieceOfOne segments (some ++ s ∷ []) e
    to c = elim (Contains-append_cases edges (pieces_between places) e c) [
      | inl before ↦ let r = (so_far e).0 before in (r.0, Contains-append_left some (s ∷ []) r.0 r.1, r.2)
      | inr now ↦ (s, Contains-push some s, (own.are_all e).0 now)
    ]

    from : IsPieceOfOne segments (some ++ s ∷ []) e → Contains (edges ++ pieces_between places) e
    from (t, among, piece) = elim (Contains-push_cases some s t among) [
      | inl before ↦ Contains-append_left edges (pieces_between places) e ((so_far e).1 (t, before, piece))
      | inr same ↦ Contains-append_right edges (pieces_between places) e ((own.are_all e).1 (subst (λ u. IsOrderedPieceOf segments u e) (sym same) piece))
    ]

-- one segment more is cut
pub one_more_is_cut : (segments : List Segment) (i : ℕ) (d : Segment) (edges after : List Edge) (count next : ℕ) (places : List Point) → i < length segments → length segments ≤ most_segments →
    AreCut segments (take i segments) edges count → AreCutPoints segments (get_or segments i d) places → length places ≤ 2 * length segments → CrossesNone segments (get_or segments i d) →
    next ≡ count + (length places - 1) → (next ≤ most_edges → after ≡ edges ++ pieces_between places) → AreCut segments (take (i + 1) segments) after next
one_more_is_cut segments i d edges after count next places within few cut cuts short crosses_none counted added =
    let some = take i segments in
    let s = get_or segments i d in
    rw (take_more segments i d within) (record {
      on_lattice = All-push (CrossesNone segments) some s cut.on_lattice crosses_none;
      have_pieces = subst (SomeHavePieces segments (some ++ s ∷ [])) (sym counted) (more_pieces segments some s count (length places - 1) cut.have_pieces (has_pieces segments s places cuts));
      few = omega (arith, cut.few, length-append some (s ∷ []));
      as_many = λ small. rw (added small) (omega (arith, length-append edges (pieces_between places), cut.as_many (omega arith), pieces_length places, counted));
      are_all = λ small e. rw (added small) (more_edges segments some s places edges cuts (cut.are_all (omega arith)) e);
    })

-- once all are cut, no two cross off the lattice
pub none_crosses : (segments : List Segment) → All (CrossesNone segments) segments → NoneCrossesOffLattice segments
none_crosses segments h s t among other crosses = All-contains (λ u. CrossesOffLattice s u → ⊥) segments t (All-contains (CrossesNone segments) segments s h among) other crosses

-- a piece of one of the segments is an edge
piece_is_edge : (segments : List Segment) (e : Edge) → IsPieceOfOne segments segments e ↔ IsEdge segments e
piece_is_edge segments e = (
  λ (s, among, (order, piece)). record { ends_in_order = order; piece = (s, among, piece) },
  λ edge. (edge.piece.0, edge.piece.1, (edge.ends_in_order, edge.piece.2)),
)

-- so all pieces in order are all edges
pub edges_from_pieces : (segments : List Segment) (edges all : List Edge) (count : ℕ) → AreCut segments segments edges count → count ≤ most_edges →
    EnumeratesBy IsEdgeBefore (Contains edges) all → AreEdgesOf segments all
edges_from_pieces segments edges all count cut few sorted =
    enumerates_too IsEdgeBefore IsEdgeBefore (Contains edges) (IsEdge segments) (λ e f before. before)
    (λ e. let here = cut.are_all few e in let edge = piece_is_edge segments e in (λ c. edge.0 (here.0 c), λ is. here.1 (edge.1 is))) all sorted

-- the lesser end of each edge is `low`
pub low_before_high : (segments : List Segment) (edges : List Edge) → AreEdgesOf segments edges → All (λ (e : Edge). IsBefore e.low e.high) edges
low_before_high segments edges are = All-from_contains (λ (e : Edge). IsBefore e.low e.high) edges (λ e among. ((are.are_all e).0 among).ends_in_order)
