-- Two edges share nothing but ends, where no two segments cross off the lattice.
use Rattle.std.proofs.Common.{arith, ◌≡◌, ◌≢◌, pos, List, get_or, inl, inr, sym, subst}
use Rattle.std.specs.Prelude.{Contains, All}
use Rattle.std.proofs.lemmas.Int.{ints}
use Rattle.std.proofs.lemmas.List.Elements.{All-contains, Contains-get_or}
use Rattle.nest_base.specs.declared.places.Point.{Point}
use Rattle.nest_base.specs.declared.places.Segment.{Segment}
use Rattle.nest_base.specs.declared.places.Edge.{Edge}
use Rattle.nest_base.specs.Plane.{RationalPoint, rational, scaled, numerators, cross_product, direction, IsAt, IsOn, MeetIn}
use Rattle.nest_base.specs.Order.{IsBefore}
use Rattle.nest_base.proofs.Directions.{cross_product-turned}
use Rattle.nest_base.proofs.Orders.{IsBefore-irrefl}
use Rattle.segment_meeting.specs.Orientation.{orientation}
use Rattle.segment_meeting.proofs.Crossing.{orientation-second}
use Rattle.segment_meeting.proofs.Factors.{same_or_not, zero_factor}
use Rattle.segment_meeting.proofs.Lines.{side-on}
use Rattle.plate_edges.specs.Cuts.{HasLength, IsParallel, NoneCrossesOffLattice}
use Rattle.plate_edges.specs.Edges.{IsEdge, IsEdgeBefore, IsInside, IsPieceOf}
use Rattle.plate_edges.specs.Laws.{EdgesAreApart}
use Rattle.plate_edges.specs.Points.{IsEndOfEdge, EdgesMeetAtEndsOnly}
use Rattle.plate_edges.proofs.Deciding.{end_or_not}
use Rattle.plate_edges.proofs.Directions.{along_third, some_direction, side-place, side-moved, way_along}
use Rattle.plate_edges.proofs.Insides.{on_part, between_inside, inside_in_line, not_below, not_above}
use Rattle.plate_edges.proofs.Orders.{by_order, same_edge, IsBefore-trans, IsEdgeBefore-asym}
use Rattle.plate_edges.proofs.Scaled.{scaled_before, on_scaled, inside_scaled, place_on, place_inside}
use Rattle.plate_edges.proofs.Vertices.{IsCut, not_inside_piece}

-- an edge, and the segment of which it is a piece
record IsFrom (segments : List Segment) (e : Edge) (s : Segment) : Type 0 where
  order : IsBefore e.low e.high
  stands : Contains segments s
  long : HasLength s
  piece : IsPieceOf segments s e

-- pieces of parallel segments are parallel
parallel_pieces : (segments : List Segment) (e f : Edge) (s t : Segment) → IsFrom segments e s → IsFrom segments f t → IsParallel s t →
    cross_product (direction e.low e.high) (direction f.low f.high) ≡ pos 0
parallel_pieces segments e f s t h k parallel =
    let d = direction s.a s.b in
    let g = direction t.a t.b in
    let along_s : cross_product d (direction e.low e.high) ≡ pos 0 =
    way_along s.a s.b e.low e.high (side-place s.a s.b e.low h.piece.low_cut.0) (side-place s.a s.b e.high h.piece.high_cut.0) in
    let along_t : cross_product g (direction f.low f.high) ≡ pos 0 =
    way_along t.a t.b f.low f.high (side-place t.a t.b f.low k.piece.low_cut.0) (side-place t.a t.b f.high k.piece.high_cut.0) in
    along_third g (direction e.low e.high) (direction f.low f.high) (some_direction t.a t.b k.long)
    (along_third d g (direction e.low e.high) (some_direction s.a s.b h.long) parallel along_s) along_t

-- two parallel parts with a common point are on one line
on_one_line : (a b c d : Point) (p : RationalPoint) → c ≢ d → cross_product (direction a b) (direction c d) ≡ pos 0 → IsOn p a b → IsOn p c d →
    orientation a b c ≡ pos 0
on_one_line a b c d p apart parallel on_ab on_cd =
    let way = direction (scaled c p.w) (numerators p) in
    let along : cross_product (direction a b) way ≡ pos 0 =
    along_third (direction c d) (direction a b) way (some_direction c d apart) (cross_product-turned (direction a b) (direction c d) parallel) (side-on c d p on_cd) in
    let moved = rw (side-on a b p on_ab, along) at (side-moved a.x a.y b.x b.y c.x c.y p.x p.y p.w) in
    zero_factor p.w (orientation a b c) (λ e. omega (arith, ints, e, p.positive)) (omega (arith, ints, moved))

-- c comes before b where a point doesn't come before c, and comes before b
before_past : (c b : Point) (p : RationalPoint) → (IsBefore (numerators p) (scaled c p.w) → ⊥) → IsBefore (numerators p) (scaled b p.w) → IsBefore c b
before_past c b p from to =
    by_order c b (λ less. less)
    (λ same. absurd (from (subst (λ q. IsBefore (numerators p) (scaled q p.w)) (sym same) to)))
    (λ more. absurd (from (IsBefore-trans (numerators p) (scaled b p.w) (scaled c p.w) to (scaled_before b c p.w p.positive more))))

past_before : (a d : Point) (p : RationalPoint) → IsBefore (scaled a p.w) (numerators p) → (IsBefore (scaled d p.w) (numerators p) → ⊥) → IsBefore a d
past_before a d p from to =
    by_order a d (λ less. less)
    (λ same. absurd (to (subst (λ q. IsBefore (scaled q p.w) (numerators p)) same from)))
    (λ more. absurd (to (IsBefore-trans (scaled d p.w) (scaled a p.w) (numerators p) (scaled_before d a p.w p.positive more) from)))

-- no end of one part comes between the ends of the other
record AreClear (a b c d : Point) : Type 0 where
  no_a : IsBefore c a → IsBefore a d → ⊥
  no_b : IsBefore c b → IsBefore b d → ⊥
  no_c : IsBefore a c → IsBefore c b → ⊥
  no_d : IsBefore a d → IsBefore d b → ⊥

-- two such parts with a common point inside the one are one
one_part : (a b c d : Point) (p : RationalPoint) → AreClear a b c d → IsBefore a b → IsBefore c d → IsInside p a b → IsOn p c d → (a ≡ c) × (b ≡ d)
one_part a b c d p clear order other inside on =
    let between = between_inside (scaled a p.w) (numerators p) (scaled b p.w) (scaled_before a b p.w p.positive order) (inside_scaled p a b inside) in
    let scaled_order : IsBefore (scaled c p.w) (scaled d p.w) = scaled_before c d p.w p.positive other in
    let c_b : IsBefore c b = before_past c b p (not_below (scaled c p.w) (numerators p) (scaled d p.w) scaled_order (on_scaled p c d on)) between.1 in
    let a_d : IsBefore a d = past_before a d p between.0 (not_above (scaled c p.w) (numerators p) (scaled d p.w) scaled_order (on_scaled p c d on)) in (
      by_order a c (λ less. absurd (clear.no_c less c_b)) (λ same. same) (λ more. absurd (clear.no_a more a_d)),
      by_order b d (λ less. absurd (clear.no_b c_b less)) (λ same. same) (λ more. absurd (clear.no_d a_d more)),
    )

-- an end of a piece on the line of another doesn't come between the ends of that
not_between : (segments : List Segment) (e : Edge) (s : Segment) → IsFrom segments e s → (q : Point) → IsCut segments q → orientation e.low e.high q ≡ pos 0 →
    IsBefore e.low q → IsBefore q e.high → ⊥
not_between segments e s h q cut line low high = not_inside_piece segments s e h.piece q cut (inside_in_line e.low q e.high line low high)

-- parallel pieces with a common point inside the one are one
one_piece : (segments : List Segment) (e f : Edge) (s t : Segment) → IsFrom segments e s → IsFrom segments f t → IsParallel s t → (p : RationalPoint) →
    IsInside p e.low e.high → IsOn p f.low f.high → e ≡ f
one_piece segments e f s t h k parallel p inside on =
    let same = one_part e.low e.high f.low f.high p clear h.order k.order inside on in
    same_edge same.0 same.1
  where
    straight : cross_product (direction e.low e.high) (direction f.low f.high) ≡ pos 0
    straight = parallel_pieces segments e f s t h k parallel

    turned : cross_product (direction f.low f.high) (direction e.low e.high) ≡ pos 0
    turned = cross_product-turned (direction e.low e.high) (direction f.low f.high) straight

    low_of_f : orientation e.low e.high f.low ≡ pos 0
    low_of_f = on_one_line e.low e.high f.low f.high p (IsBefore-irrefl f.low f.high k.order) straight inside.0 on

    low_of_e : orientation f.low f.high e.low ≡ pos 0
    low_of_e = on_one_line f.low f.high e.low e.high p (IsBefore-irrefl e.low e.high h.order) turned on inside.0

    clear : AreClear e.low e.high f.low f.high
    clear = record {
      no_a = not_between segments f t k e.low h.piece.low_cut.1 low_of_e;
      no_b = not_between segments f t k e.high h.piece.high_cut.1 (omega (arith, ints, low_of_e, turned, orientation-second f.low f.high e.low e.high));
      no_c = not_between segments e s h f.low k.piece.low_cut.1 low_of_f;
      no_d = not_between segments e s h f.high k.piece.high_cut.1 (omega (arith, ints, low_of_f, straight, orientation-second e.low e.high f.low f.high));
    }

-- pieces of segments that aren't parallel have no common point inside the one, unless the segments cross off the lattice
none_inside : (segments : List Segment) (e f : Edge) (s t : Segment) → IsFrom segments e s → IsFrom segments f t → NoneCrossesOffLattice segments →
    (IsParallel s t → ⊥) → (p : RationalPoint) → IsInside p e.low e.high → IsOn p f.low f.high → ⊥
none_inside segments e f s t h k none apart p inside on = none s t h.stands k.stands (record {
  not_parallel = apart;
  point = p;
  meet = both;
  off_lattice = λ q at. not_inside_piece segments s e h.piece q
      (inr (s, t, h.stands, k.stands, apart, meet_at q at)) (place_inside p q e.low e.high at inside);
}) where
  both : MeetIn s t p
  both = (
    on_part s.a s.b e.low e.high p h.piece.low_cut.0 h.piece.high_cut.0 inside.0,
    on_part t.a t.b f.low f.high p k.piece.low_cut.0 k.piece.high_cut.0 on,
  )

  meet_at : (q : Point) → IsAt p q → MeetIn s t (rational q)
  meet_at q at = (place_on p q s.a s.b at both.0, place_on p q t.a t.b at both.1)

-- what two edges share is an end of the first
end_of_first : (segments : List Segment) (e f : Edge) (s t : Segment) → IsFrom segments e s → IsFrom segments f t → NoneCrossesOffLattice segments → e ≢ f →
    (p : RationalPoint) → IsOn p e.low e.high → IsOn p f.low f.high → IsEndOfEdge e p
end_of_first segments e f s t h k none differ p on_e on_f = elim (end_or_not e p) [
  | inl end ↦ end
  | inr not ↦ elim (same_or_not (cross_product (direction s.a s.b) (direction t.a t.b)) (pos 0)) [
    | inl parallel ↦ absurd (differ (one_piece segments e f s t h k parallel p (on_e, not.0, not.1) on_f))
    | inr apart ↦ absurd (none_inside segments e f s t h k none apart p (on_e, not.0, not.1) on_f)
  ]
]

from_segment : (segments : List Segment) → All HasLength segments → (e : Edge) (edge : IsEdge segments e) → IsFrom segments e edge.piece.0
from_segment segments long e edge = record {
  order = edge.ends_in_order;
  stands = edge.piece.1;
  long = All-contains HasLength segments edge.piece.0 long edge.piece.1;
  piece = edge.piece.2;
}

ends_only : (segments : List Segment) → All HasLength segments → NoneCrossesOffLattice segments → (e f : Edge) → IsEdge segments e → IsEdge segments f → e ≢ f →
    EdgesMeetAtEndsOnly e f
ends_only segments long none e f edge other differ p on_e on_f =
    let s = edge.piece.0 in
    let t = other.piece.0 in
    let h = from_segment segments long e edge in
    let k = from_segment segments long f other in (
      end_of_first segments e f s t h k none differ p on_e on_f,
      end_of_first segments f e t s k h none (λ same. differ (sym same)) p on_f on_e,
    )

pub ends_apart : EdgesAreApart
ends_apart segments edges long none all i j d less within =
    let e = get_or edges i d in
    let f = get_or edges j d in
    let before : IsEdgeBefore e f = all.in_order i j d less within in
    ends_only segments long none e f ((all.are_all e).0 (Contains-get_or edges i d (omega arith))) ((all.are_all f).0 (Contains-get_or edges j d within))
    (λ same. let loop : IsEdgeBefore e e = subst (IsEdgeBefore e) (sym same) before in IsEdgeBefore-asym e e loop loop)
