-- Half-edges of edges that meet at ends only: the places that two of them cover.
use Rattle.std.proofs.Common.{◌≡◌, ◌⊎◌, inl, inr, List, sym, ap, ◌∙◌, subst}
use Rattle.std.specs.Prelude.{AllPairs}
use Rattle.nest_base.specs.declared.places.Point.{Point}
use Rattle.nest_base.specs.declared.places.Edge.{Edge}
use Rattle.nest_base.specs.Plane.{HalfEdge, RationalPoint, twin, rational, IsOn}
use Rattle.nest_base.proofs.Points.{turned_on}
use Rattle.plate_edges.specs.Points.{EdgesMeetAtEndsOnly, IsEndOfEdge}
use Rattle.plate_edges.proofs.Lists.{pair_of}
use Rattle.plate_edges.proofs.Places.{place_at}
use Rattle.plate_sides.specs.HalfEdges.{IsHalfEdgeOf, IsHalfEdge}
use Rattle.plate_sides.proofs.HalfEdges.{same_or_twin}

-- what lies on a half-edge lies on its edge
pub on_edge_of : (e : Edge) (h : HalfEdge) (p : RationalPoint) → IsHalfEdgeOf e h → IsOn p h.from h.to → IsOn p e.low e.high
on_edge_of e h p (inl is) on = subst (λ (k : HalfEdge). IsOn p k.from k.to) is on
on_edge_of e h p (inr is) on = turned_on e.high e.low p (subst (λ (k : HalfEdge). IsOn p k.from k.to) is on)

-- half-edges have one edge, or those of them meet at ends only
pub one_or_apart : (edges : List Edge) → AllPairs EdgesMeetAtEndsOnly edges → (d e : HalfEdge) → (is_d : IsHalfEdge edges d) → (is_e : IsHalfEdge edges e) →
    ((d ≡ e) ⊎ (d ≡ twin e)) ⊎ EdgesMeetAtEndsOnly is_d.0 is_e.0
one_or_apart edges apart d e (f, at_f, of_f) (g, at_g, of_g) = elim (pair_of EdgesMeetAtEndsOnly f g edges apart at_f at_g) [
  | inl same ↦ inl (same_or_twin f d e of_f (subst (λ (k : Edge). IsHalfEdgeOf k e) (sym same) of_g))
  | inr (inl meet) ↦ inr meet
  | inr (inr meet) ↦ inr (λ p on_f on_g. let ends = meet p on_g on_f in (ends.1, ends.0))
]

-- a place that is an end of an edge is one of a half-edge
end_of : (e : Edge) (h : HalfEdge) (z : Point) → IsHalfEdgeOf e h → IsEndOfEdge e (rational z) → (z ≡ h.from) ⊎ (z ≡ h.to)
end_of e h z (inl is) (inl at) = inl (place_at z e.low at ∙ sym (ap (λ (k : HalfEdge). k.from) is))
end_of e h z (inl is) (inr at) = inr (place_at z e.high at ∙ sym (ap (λ (k : HalfEdge). k.to) is))
end_of e h z (inr is) (inl at) = inr (place_at z e.low at ∙ sym (ap (λ (k : HalfEdge). k.to) is))
end_of e h z (inr is) (inr at) = inl (place_at z e.high at ∙ sym (ap (λ (k : HalfEdge). k.from) is))

-- a place on two half-edges is an end of both, unless they have one edge
pub meet_at_ends : (edges : List Edge) → AllPairs EdgesMeetAtEndsOnly edges → (d e : HalfEdge) (z : Point) → IsHalfEdge edges d → IsHalfEdge edges e →
    IsOn (rational z) d.from d.to → IsOn (rational z) e.from e.to →
    (d ≡ e) ⊎ (d ≡ twin e) ⊎ (((z ≡ d.from) ⊎ (z ≡ d.to)) × ((z ≡ e.from) ⊎ (z ≡ e.to)))
meet_at_ends edges apart d e z is_d is_e on_d on_e = elim (one_or_apart edges apart d e is_d is_e) [
  | inl (inl same) ↦ inl same
  | inl (inr turned) ↦ inr (inl turned)
  | inr meet ↦
      let ends = meet (rational z) (on_edge_of is_d.0 d (rational z) is_d.2 on_d) (on_edge_of is_e.0 e (rational z) is_e.2 on_e) in
      inr (inr (end_of is_d.0 d z is_d.2 ends.0, end_of is_e.0 e z is_e.2 ends.1))
]
