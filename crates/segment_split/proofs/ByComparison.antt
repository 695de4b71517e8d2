-- The derived comparisons of places and of edges, and their orders.
use Rattle.std.proofs.Common.{◌≡◌, ◌⊎◌, ◌&&◌, ◌∙◌, Bool, sym, ap, ap₂, inl, inr, refl, subst}
use Rattle.std.specs.declared.cmp.Ordering.{Ordering}
use Rattle.std.specs.declared.cmp.Ordering.TheVariants.{Less, Equal, Greater}
use Rattle.std.specs.Cmp.{IsTotalOrder}
use Rattle.std.specs.Ordering.{int_cmp, int_eq, ordering_then, is_lt, is_eq, eq_by_cmp}
use Rattle.std.proofs.lemmas.Bool.{true≢false}
use Rattle.std.proofs.lemmas.Cmp.{on_total, then_total, tied_itself}
use Rattle.std.proofs.lemmas.Map.Lookups.{CmpEqualImpliesEq}
use Rattle.nest_base.specs.declared.places.Point.{Point}
use Rattle.nest_base.specs.declared.places.Edge.{Edge}
use Rattle.nest_base.specs.Order.{IsBefore, place_cmp}
use Rattle.nest_base.proofs.Comparisons.{both_equal, is_eq-both, place_order, places_apart}
use Rattle.plate_edges.specs.Edges.{IsEdgeBefore}
use Rattle.plate_edges.proofs.Orders.{same_edge, by_order, not_lt_after}

-- places are equal where both coordinates are
abbrev pub place_eq : Point → Point → Bool
place_eq a b = int_eq a.x b.x && int_eq a.y b.y

-- that is where they compare as equal
pub place_ties : (a b : Point) → place_eq a b ≡ eq_by_cmp place_cmp a b
place_ties a b = is_eq-both (int_cmp a.x b.x) (int_cmp a.y b.y)

-- a place that compares as less comes before
pub less_is_before : (a b : Point) → place_cmp a b ≡ Less → IsBefore a b
less_is_before a b less = by_order a b
    (λ before. before)
    (λ same. absurd (true≢false (sym (ap is_eq (subst (λ p. place_cmp a p ≡ Equal) same (tied_itself place_order a))) ∙ ap is_eq less)))
    (λ after. absurd (true≢false (sym (ap is_lt less) ∙ not_lt_after a b after)))

-- edges are compared by low end, then by high end
abbrev pub edge_cmp : Edge → Edge → Ordering
edge_cmp e f = ordering_then (place_cmp e.low f.low) (place_cmp e.high f.high)

-- and they are equal where both ends are
abbrev pub edge_eq : Edge → Edge → Bool
edge_eq e f = place_eq e.low f.low && place_eq e.high f.high

-- which is a total order
pub edge_order : IsTotalOrder edge_cmp
edge_order = then_total (on_total (λ (e : Edge). e.low) place_order) (on_total (λ (e : Edge). e.high) place_order)

-- edges that compare as equal are one
pub edges_apart : CmpEqualImpliesEq edge_cmp
edges_apart e f tied =
    let both = both_equal (place_cmp e.low f.low) (place_cmp e.high f.high) tied in
    same_edge (places_apart e.low f.low both.0) (places_apart e.high f.high both.1)

-- that is where they compare as equal, too
pub edge_ties : (e f : Edge) → edge_eq e f ≡ eq_by_cmp edge_cmp e f
edge_ties e f = ap₂ (λ s t. s && t) (place_ties e.low f.low) (place_ties e.high f.high) ∙ is_eq-both (place_cmp e.low f.low) (place_cmp e.high f.high)

-- the comparison that comes out less is the first that isn't equal
first_less : (r s : Ordering) → ordering_then r s ≡ Less → (r ≡ Less) ⊎ ((r ≡ Equal) × (s ≡ Less))
first_less Less s e = inl refl
first_less Equal s e = inr (refl, e)
first_less Greater s e = inl e

-- an edge that compares as less comes before
pub less_is_edge_before : (e f : Edge) → edge_cmp e f ≡ Less → IsEdgeBefore e f
less_is_edge_before e f less = elim (first_less (place_cmp e.low f.low) (place_cmp e.high f.high) less) [
  | inl low ↦ inl (less_is_before e.low f.low low)
  | inr both ↦ inr (places_apart e.low f.low both.0, less_is_before e.high f.high both.1)
]
