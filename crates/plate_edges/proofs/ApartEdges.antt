-- Segments that meet at ends only are their own edges.
use Rattle.std.proofs.Common.{arith, ◌≡◌, ◌⊎◌, List, map, get_or, refl, sym, inl, inr, subst, ◌∙◌}
use Rattle.std.specs.Prelude.{◌≢◌, Contains, All, AllPairs}
use Rattle.std.proofs.lemmas.List.Elements.{All-contains}
use Rattle.std.proofs.lemmas.List.Sorted.{IsPermutation-sym, Contains-permutation}
use Rattle.nest_base.specs.declared.places.Point.{Point}
use Rattle.nest_base.specs.declared.places.Segment.{Segment}
use Rattle.nest_base.specs.declared.places.Edge.{Edge}
use Rattle.nest_base.specs.Plane.{rational, direction, IsOn, IsEndAt, MeetIn, MeetAtEndsOnly}
use Rattle.nest_base.specs.Order.{IsBefore}
use Rattle.nest_base.proofs.Directions.{cross_product-self}
use Rattle.nest_base.proofs.Orders.{IsBefore-irrefl}
use Rattle.nest_base.proofs.Points.{on_first, on_last}
use Rattle.plate_edges.specs.Cuts.{IsParallel, IsCutPoint, HasLength}
use Rattle.plate_edges.specs.Edges.{IsInside, IsPieceOf, IsEdge, IsEdgeBefore, edge_of}
use Rattle.plate_edges.specs.Laws.{ApartSegmentsAreTheirEdges}
use Rattle.plate_edges.proofs.Lists.{pair_of, Contains-map, origin_in, AllPairs-map}
use Rattle.plate_edges.proofs.Sorts.{Sorted, sorted}
use Rattle.plate_edges.proofs.Orders.{same_edge, turned_order, by_order, lt_before, not_lt_after, IsEdgeBefore-is_strict}
use Rattle.plate_edges.proofs.Places.{place_at, at_place, middle, on_middle, AreSameEnds, same_ends_back, on_same_ends, middle_at_first, middle_at_last}

-- q is an end of s
abbrev IsEndOf : Segment → Point → Type 0
IsEndOf s q = (s.a ≡ q) ⊎ (s.b ≡ q)

end_of : (s : Segment) (q : Point) → IsEndAt s (rational q) → IsEndOf s q
end_of s q (inl h) = inl (sym (place_at q s.a h))
end_of s q (inr h) = inr (sym (place_at q s.b h))

-- the segments have a length, and any two of them meet at ends only
record AreApart (segments : List Segment) : Type 0 where
  long : All HasLength segments
  apart : AllPairs MeetAtEndsOnly segments

-- two of the segments are one, or what they share is an end of the first
same_or_end : (segments : List Segment) → AreApart segments → (s t : Segment) → Contains segments s → Contains segments t →
    (q : Point) → MeetIn s t (rational q) → (s ≡ t) ⊎ IsEndOf s q
same_or_end segments h s t c d q meet = elim (pair_of MeetAtEndsOnly s t segments h.apart c d) [
  | inl same ↦ inl same
  | inr pair ↦ elim pair [
    | inl ends ↦ inr (end_of s q (ends (rational q) meet).0)
    | inr ends ↦ inr (end_of s q (ends (rational q) (meet.1, meet.0)).1)
  ]
]

pub end_is_on : (t : Segment) (q : Point) → IsEndOf t q → IsOn (rational q) t.a t.b
end_is_on t q (inl e) = subst (λ p. IsOn (rational p) t.a t.b) e (on_first t.a t.b)
end_is_on t q (inr e) = subst (λ p. IsOn (rational p) t.a t.b) e (on_last t.a t.b)

-- the cut points of a segment are its ends
cut_is_end : (segments : List Segment) → AreApart segments → (s : Segment) → Contains segments s → (q : Point) → IsCutPoint segments s q → IsEndOf s q
cut_is_end segments h s c q (on, inl (t, d, end)) = elim (same_or_end segments h s t c d q (on, end_is_on t q end)) [
  | inl same ↦ subst (λ r. IsEndOf r q) (sym same) end
  | inr end ↦ end
]
cut_is_end segments h s c q (on, inr (t, u, d, e, turned, meet)) = elim (same_or_end segments h s t c d q (on, meet.0)) [
  | inl one ↦ elim (same_or_end segments h s u c e q (on, meet.1)) [
    | inl other ↦ absurd (turned (subst (λ r. IsParallel r u) one (subst (λ r. IsParallel s r) other (cross_product-self (direction s.a s.b)))))
    | inr end ↦ end
  ]
  | inr end ↦ end
]

-- the edge has the ends of the segment, in order
record IsFromTo (s : Segment) (e : Edge) : Type 0 where
  order : IsBefore e.low e.high
  ends : AreSameEnds s.a s.b e.low e.high

from_to : (s : Segment) → HasLength s → IsFromTo s (edge_of s)
from_to s long = by_order s.b s.a
    (λ before. rw (lt_before s.b s.a before) (record { order = before; ends = inr (refl, refl) }))
    (λ same. absurd (long (sym same)))
    (λ after. rw (not_lt_after s.b s.a after) (record { order = after; ends = inl (refl, refl) }))

-- there is one such edge
one_from_to : (s : Segment) (e f : Edge) → IsFromTo s e → IsFromTo s f → e ≡ f
one_from_to s e f h k = elim h.ends [
  | inl p ↦ elim k.ends [
    | inl r ↦ same_edge (sym p.0 ∙ r.0) (sym p.1 ∙ r.1)
    | inr r ↦ absurd (turned_order e f (sym p.0 ∙ r.0) (sym p.1 ∙ r.1) h.order k.order)
  ]
  | inr p ↦ elim k.ends [
    | inl r ↦ absurd (turned_order e f (sym p.1 ∙ r.1) (sym p.0 ∙ r.0) h.order k.order)
    | inr r ↦ same_edge (sym p.1 ∙ r.1) (sym p.0 ∙ r.0)
  ]
]

-- a piece has the ends of its segment
piece_from_to : (s : Segment) (e : Edge) → IsBefore e.low e.high → IsEndOf s e.low → IsEndOf s e.high → IsFromTo s e
piece_from_to s e order (inl l) (inl h) = absurd (IsBefore-irrefl e.low e.high order (sym l ∙ h))
piece_from_to s e order (inl l) (inr h) = record { order = order; ends = inl (l, h) }
piece_from_to s e order (inr l) (inl h) = record { order = order; ends = inr (h, l) }
piece_from_to s e order (inr l) (inr h) = absurd (IsBefore-irrefl e.low e.high order (sym l ∙ h))

-- each edge is a segment's
edge_is_segment : (segments : List Segment) → AreApart segments → (e : Edge) → IsEdge segments e → Contains (map edge_of segments) e
edge_is_segment segments h e edge =
    let s : Segment = edge.piece.0 in
    let c : Contains segments s = edge.piece.1 in
    let piece : IsPieceOf segments s e = edge.piece.2 in
    let ends : (q : Point) → IsCutPoint segments s q → IsEndOf s q = cut_is_end segments h s c in
    let e_from_to : IsFromTo s e = piece_from_to s e edge.ends_in_order (ends e.low piece.low_cut) (ends e.high piece.high_cut) in
    let same : edge_of s ≡ e = one_from_to s (edge_of s) e (from_to s (All-contains HasLength segments s h.long c)) e_from_to in
    subst (Contains (map edge_of segments)) same (Contains-map edge_of segments s c)

pub first_cut : (segments : List Segment) (s : Segment) → Contains segments s → IsCutPoint segments s s.a
first_cut segments s c = (on_first s.a s.b, inl (s, c, inl refl))

pub last_cut : (segments : List Segment) (s : Segment) → Contains segments s → IsCutPoint segments s s.b
last_cut segments s c = (on_last s.a s.b, inl (s, c, inr refl))

-- an end isn't inside
end_not_inside : (s : Segment) (e : Edge) → IsFromTo s e → (q : Point) → IsEndOf s q → IsInside (rational q) e.low e.high → ⊥
end_not_inside s e h q end inside = elim h.ends [
  | inl p ↦ elim end [
    | inl l ↦ inside.1 (at_place q e.low (sym l ∙ p.0))
    | inr l ↦ inside.2 (at_place q e.high (sym l ∙ p.1))
  ]
  | inr p ↦ elim end [
    | inl l ↦ inside.2 (at_place q e.high (sym l ∙ p.0))
    | inr l ↦ inside.1 (at_place q e.low (sym l ∙ p.1))
  ]
]

-- and each segment's edge is one
segment_is_edge : (segments : List Segment) → AreApart segments → (s : Segment) → Contains segments s → (e : Edge) → IsFromTo s e → IsEdge segments e
segment_is_edge segments h s c e from = record {
  ends_in_order = from.order;
  piece = (
    s,
    c,
    record {
      low_cut = elim from.ends [
        | inl p ↦ subst (IsCutPoint segments s) p.0 (first_cut segments s c)
        | inr p ↦ subst (IsCutPoint segments s) p.1 (last_cut segments s c)
      ];
      high_cut = elim from.ends [
        | inl p ↦ subst (IsCutPoint segments s) p.1 (last_cut segments s c)
        | inr p ↦ subst (IsCutPoint segments s) p.0 (first_cut segments s c)
      ];
      uncut = λ q cut inside. end_not_inside s e from q (cut_is_end segments h s c q cut) inside;
    },
  );
}

-- two segments with one edge share their middle
middle_is_shared : (s t : Segment) (e : Edge) → IsFromTo s e → IsFromTo t e → IsOn (middle s.a s.b) t.a t.b
middle_is_shared s t e h k =
    on_same_ends (middle s.a s.b) e.low e.high t.a t.b (same_ends_back t.a t.b e.low e.high k.ends)
    (on_same_ends (middle s.a s.b) s.a s.b e.low e.high h.ends (on_middle s.a s.b))

-- which is no end, so segments that meet at ends only have different edges
not_one_edge : (s t : Segment) → HasLength s → HasLength t → MeetAtEndsOnly s t → edge_of s ≢ edge_of t
not_one_edge s t long other ends same =
    let shared : MeetIn s t (middle s.a s.b) =
    (on_middle s.a s.b, middle_is_shared s t (edge_of s) (from_to s long) (subst (IsFromTo t) (sym same) (from_to t other))) in
    elim (ends (middle s.a s.b) shared).0 [
      | inl h ↦ long (middle_at_first s.a s.b h)
      | inr h ↦ long (middle_at_last s.a s.b h)
    ]

-- so the edges of the segments, put in order, are all edges
pub apart_segments : ApartSegmentsAreTheirEdges
apart_segments segments long pairs =
    let h : AreApart segments = record { long = long; apart = pairs } in
    let own : List Edge = map edge_of segments in
    let different : AllPairs (λ e f. e ≢ f) own = AllPairs-map (λ e f. e ≢ f) edge_of segments
    (λ i j d below within.
    not_one_edge (get_or segments i d) (get_or segments j d) (long i d (omega arith)) (long j d within) (pairs i j d below within)) in
    let all : Sorted IsEdgeBefore own = sorted IsEdgeBefore IsEdgeBefore-is_strict own different in (
      all.list,
      record {
        in_order = all.in_order;
        are_all = λ e. (
          (λ c. let r = origin_in edge_of segments e (Contains-permutation all.list own e (IsPermutation-sym own all.list all.same) c) in
              subst (IsEdge segments) r.2 (segment_is_edge segments h r.0 r.1 (edge_of r.0) (from_to r.0 (All-contains HasLength segments r.0 long r.1)))),
          (λ edge. Contains-permutation own all.list e all.same (edge_is_segment segments h e edge)),
        );
      },
      all.same,
    )
