-- No two half-edges leave one vertex in one direction, where edges meet at ends only.
use Rattle.std.proofs.Common.{◌≡◌, ◌⊎◌, inl, inr, List, sym, ap, subst, ◌∙◌}
use Rattle.std.specs.Prelude.{All, AllPairs}
use Rattle.std.proofs.lemmas.List.Elements.{All-contains}
use Rattle.nest_base.specs.declared.places.Point.{Point}
use Rattle.nest_base.specs.declared.places.Edge.{Edge}
use Rattle.nest_base.specs.Plane.{HalfEdge, RationalPoint, IsAt, heading, direction}
use Rattle.nest_base.specs.Turn.{IsSameDirection}
use Rattle.nest_base.specs.Angles.{IsDirection}
use Rattle.nest_base.specs.Order.{IsBefore}
use Rattle.nest_base.proofs.Points.{IsDirection-direction}
use Rattle.segment_meeting.proofs.Folding.{folding}
use Rattle.segment_meeting.proofs.OneDirection.{one_direction}
use Rattle.plate_edges.specs.Points.{EdgesMeetAtEndsOnly, IsEndOfEdge}
use Rattle.plate_sides.specs.HalfEdges.{IsHalfEdgeOf, IsHalfEdge}
use Rattle.plate_sides.proofs.HalfEdges.{ends_differ}
use Rattle.plate_nesting.proofs.Meetings.{one_or_apart, on_edge_of}

-- an end of an edge is at an end of its half-edge
at_end : (e : Edge) (h : HalfEdge) (p : RationalPoint) → IsHalfEdgeOf e h → IsEndOfEdge e p → IsAt p h.from ⊎ IsAt p h.to
at_end e h p (inl is) (inl at) = inl (subst (IsAt p) (sym (ap (λ (k : HalfEdge). k.from) is)) at)
at_end e h p (inl is) (inr at) = inr (subst (IsAt p) (sym (ap (λ (k : HalfEdge). k.to) is)) at)
at_end e h p (inr is) (inl at) = inr (subst (IsAt p) (sym (ap (λ (k : HalfEdge). k.to) is)) at)
at_end e h p (inr is) (inr at) = inl (subst (IsAt p) (sym (ap (λ (k : HalfEdge). k.from) is)) at)

-- half-edges of edges that meet at ends only don't leave one vertex in one direction
no_one_way : (e f : Edge) (g h : HalfEdge) → EdgesMeetAtEndsOnly e f → IsHalfEdgeOf e g → IsHalfEdgeOf f h → g.from ≡ h.from →
    IsSameDirection (heading g) (direction g.from h.to) → ⊥
no_one_way e f g h apart of_e of_f at same =
    let shared = folding g.from g.to h.to (one_direction g.from g.to h.to same) in
    let p : RationalPoint = shared.0 in
    let ends = apart p (on_edge_of e g p of_e shared.1.first) (on_edge_of f (record { from = g.from; to = h.to }) p
    (subst (λ (v : Point). IsHalfEdgeOf f (record { from = v; to = h.to })) (sym at) of_f) shared.1.second) in
    elim (at_end e g p of_e ends.0) [ inl near ↦ shared.1.not_near near | inr far ↦ shared.1.not_far far ]

module _ (edges : List Edge) (in_order : All (λ (e : Edge). IsBefore e.low e.high) edges) where
  -- a half-edge doesn't end where it begins
  pub leads_away : (h : HalfEdge) → IsHalfEdge edges h → h.to ≡ h.from → ⊥
  leads_away h (e, stands, is) = ends_differ e h (All-contains (λ (f : Edge). IsBefore f.low f.high) edges e in_order stands) is

  -- so it leads somewhere
  pub heading_is_direction : (h : HalfEdge) → IsHalfEdge edges h → IsDirection (heading h)
  heading_is_direction h is = IsDirection-direction h.from h.to (λ same. leads_away h is (sym same))

  -- half-edges that leave one vertex in one direction are one
  pub one_way_is_one : AllPairs EdgesMeetAtEndsOnly edges → (g h : HalfEdge) → IsHalfEdge edges g → IsHalfEdge edges h → g.from ≡ h.from →
      IsSameDirection (heading g) (heading h) → g ≡ h
  one_way_is_one apart g h is_g is_h at same = elim (one_or_apart edges apart g h is_g is_h) [
    | inl (inl one) ↦ one
    | inl (inr turned) ↦ absurd (leads_away h is_h (sym (ap (λ (k : HalfEdge). k.from) turned) ∙ at))
    | inr meet ↦ absurd (no_one_way is_g.0 is_h.0 g h meet is_g.2 is_h.2 at
        (subst (λ (v : Point). IsSameDirection (heading g) (direction v h.to)) (sym at) same))
  ]
