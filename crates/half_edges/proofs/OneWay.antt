-- No two half-edges leave one vertex in one direction.
use Rattle.std.proofs.Common.{◌≡◌, ◌≢◌, ◌⊎◌, inl, inr, ℕ, ◌+◌, ◌*◌, List, sym, ap, subst, ◌∙◌}
use Rattle.std.specs.Prelude.{slice_get, All, AllPairs}
use Rattle.std.proofs.lemmas.Bool.{cases_order}
use Rattle.std.proofs.lemmas.List.Elements.{All-contains}
use Rattle.nest_base.specs.declared.places.Segment.{Segment}
use Rattle.nest_base.specs.declared.places.Edge.{Edge}
use Rattle.nest_base.specs.Plane.{HalfEdge, twin, heading, direction}
use Rattle.nest_base.specs.Turn.{IsSameDirection}
use Rattle.nest_base.specs.Angles.{IsDirection}
use Rattle.nest_base.specs.Order.{IsBefore}
use Rattle.nest_base.proofs.Orders.{IsBefore-irrefl}
use Rattle.nest_base.proofs.Points.{IsDirection-direction}
use Rattle.segment_meeting.proofs.OneDirection.{one_direction}
use Rattle.half_edges.proofs.FoldedCorners.{Joins, folded_corner}
use Rattle.plate_edges.specs.Points.{EdgesMeetAtEndsOnly}
use Rattle.plate_sides.specs.HalfEdges.{forth, IsHalfEdgeOf, IsHalfEdge}
use Rattle.plate_sides.proofs.HalfEdges.{ends_differ}
use Rattle.half_edges.specs.Numbers.{IsSide}
use Rattle.nest_base.proofs.ListReads.{one_read, All-read, AllPairs-reads}
use Rattle.half_edges.proofs.Numbers.{IsSideOf, side_of, is_of_edge, side_is_half_edge}

-- an edge as a segment
abbrev cut_along : Edge → Segment
cut_along e = record { a = e.low; b = e.high; line = 0 }

joins : (e : Edge) (h : HalfEdge) → IsHalfEdgeOf e h → Joins (cut_along e) h.from h.to
joins e h (inl is) = inl (sym (ap (λ (g : HalfEdge). g.from) is), sym (ap (λ (g : HalfEdge). g.to) is))
joins e h (inr is) = inr (sym (ap (λ (g : HalfEdge). g.from) is), sym (ap (λ (g : HalfEdge). g.to) is))

-- so half-edges of edges that meet at ends only don't
apart_ways : (e f : Edge) (g h : HalfEdge) → EdgesMeetAtEndsOnly e f → IsHalfEdgeOf e g → IsHalfEdgeOf f h → g.from ≡ h.from → IsSameDirection (heading g) (heading h) → ⊥
apart_ways e f g h apart is_g is_h at same =
    folded_corner (cut_along e) (cut_along f) g.from g.to h.to (joins e g is_g) (subst (λ o. Joins (cut_along f) o h.to) (sym at) (joins f h is_h))
    (one_direction g.from g.to h.to (subst (λ o. IsSameDirection (heading g) (direction o h.to)) (sym at) same))
    (λ p meet. apart p meet.0 meet.1)

-- no two half-edges of one edge leave one vertex
apart_numbers : (e : Edge) (s t k : ℕ) (g h : HalfEdge) → IsBefore e.low e.high → s ≢ t → ((s ≡ 2 * k) × (g ≡ forth e)) ⊎ ((s ≡ 2 * k + 1) × (g ≡ twin (forth e))) →
    ((t ≡ 2 * k) × (h ≡ forth e)) ⊎ ((t ≡ 2 * k + 1) × (h ≡ twin (forth e))) → g.from ≡ h.from → ⊥
apart_numbers e s t k g h order apart (inl p) (inl q) at = apart (p.0 ∙ sym q.0)
apart_numbers e s t k g h order apart (inl p) (inr q) at =
    IsBefore-irrefl e.low e.high order (sym (ap (λ (d : HalfEdge). d.from) p.1) ∙ at ∙ ap (λ (d : HalfEdge). d.from) q.1)
apart_numbers e s t k g h order apart (inr p) (inl q) at =
    IsBefore-irrefl e.low e.high order (sym (ap (λ (d : HalfEdge). d.from) q.1) ∙ sym at ∙ ap (λ (d : HalfEdge). d.from) p.1)
apart_numbers e s t k g h order apart (inr p) (inr q) at = apart (p.0 ∙ sym q.0)

-- half-edges with different numbers that leave one vertex lead in different directions
pub no_one_way : (edges : List Edge) (s t : ℕ) (g h : HalfEdge) → All (λ (e : Edge). IsBefore e.low e.high) edges → AllPairs EdgesMeetAtEndsOnly edges → s ≢ t →
    IsSide edges s g → IsSide edges t h → g.from ≡ h.from → IsSameDirection (heading g) (heading h) → ⊥
no_one_way edges s t g h order pairs apart is_g is_h at same = of (side_of edges s g is_g) (side_of edges t h is_h)
  where
    of : (i : ℕ) × (e : Edge) × IsSideOf edges s g i e → (j : ℕ) × (f : Edge) × IsSideOf edges t h j f → ⊥
    of (i, e, p) (j, f, q) = elim (cases_order i j) [
      | inl one ↦
          let f_e : f ≡ e = one_read edges i f e (ap (slice_get edges) one ∙ q.0) p.0 in
          let there = subst (λ m. ((t ≡ 2 * m) × (h ≡ forth e)) ⊎ ((t ≡ 2 * m + 1) × (h ≡ twin (forth e)))) (sym one)
          (subst (λ (c : Edge). ((t ≡ 2 * j) × (h ≡ forth c)) ⊎ ((t ≡ 2 * j + 1) × (h ≡ twin (forth c)))) f_e q.1) in
          apart_numbers e s t i g h (All-read (λ (c : Edge). IsBefore c.low c.high) edges i e order p.0) apart p.1 there at
      | inr (inl less) ↦ apart_ways e f g h (AllPairs-reads EdgesMeetAtEndsOnly edges i j e f pairs less p.0 q.0) (is_of_edge edges s i g e p) (is_of_edge edges t j h f q) at same
      | inr (inr more) ↦
          let turned : EdgesMeetAtEndsOnly f e = AllPairs-reads EdgesMeetAtEndsOnly edges j i f e pairs more q.0 p.0 in
          apart_ways e f g h (λ r on_e on_f. let both = turned r on_f on_e in (both.1, both.0)) (is_of_edge edges s i g e p) (is_of_edge edges t j h f q) at same
    ]

-- a half-edge leads somewhere
pub heading_is_direction : (edges : List Edge) (h : HalfEdge) → All (λ (e : Edge). IsBefore e.low e.high) edges → IsHalfEdge edges h → IsDirection (heading h)
heading_is_direction edges h order (e, stands, is) =
    IsDirection-direction h.from h.to (λ same. ends_differ e h (All-contains (λ (f : Edge). IsBefore f.low f.high) edges e order stands) is (sym same))

pub leads_on : (edges : List Edge) (s : ℕ) (h : HalfEdge) → All (λ (e : Edge). IsBefore e.low e.high) edges → IsSide edges s h → IsDirection (heading h)
leads_on edges s h order is = heading_is_direction edges h order (side_is_half_edge edges s h is)
