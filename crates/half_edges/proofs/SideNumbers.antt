-- A half-edge of edges that stand once has one number.
use Rattle.std.proofs.Common.{◌≡◌, ◌≢◌, ℕ, inl, inr, List, Some, slice_get, refl, sym, ap, subst, ◌∙◌}
use Rattle.std.specs.Prelude.{AllPairs}
use Rattle.std.proofs.lemmas.Bool.{cases_order}
use Rattle.std.proofs.lemmas.List.Elements.{All-contains}
use Rattle.nest_base.specs.declared.places.Edge.{Edge}
use Rattle.nest_base.specs.Plane.{HalfEdge, twin}
use Rattle.nest_base.specs.Order.{IsBefore}
use Rattle.nest_base.proofs.Orders.{IsBefore-irrefl}
use Rattle.plate_sides.specs.HalfEdges.{forth}
use Rattle.plate_sides.proofs.HalfEdges.{one_edge}
use Rattle.half_edges.specs.Numbers.{IsSide}
use Rattle.nest_base.proofs.ListReads.{Contains-from_read, AllPairs-reads}
use Rattle.half_edges.proofs.NextRound.{AreOrdered}
use Rattle.half_edges.proofs.Numbers.{side_of, IsSideOf, is_of_edge}

-- what has an order that nothing has with itself stands at one place
pub one_place : {X : Type 0} (R : X → X → Type 0) (xs : List X) (i j : ℕ) (x : X) → ((x : X) → R x x → ⊥) → AllPairs R xs →
    slice_get xs i ≡ Some x → slice_get xs j ≡ Some x → i ≡ j
one_place R xs i j x irrefl pairs at_i at_j = elim (cases_order i j) [
  | inl same ↦ same
  | inr (inl less) ↦ absurd (irrefl x (AllPairs-reads R xs i j x x pairs less at_i at_j))
  | inr (inr more) ↦ absurd (irrefl x (AllPairs-reads R xs j i x x pairs more at_j at_i))
]

-- the two half-edges of an edge differ
not_its_twin : (e : Edge) → IsBefore e.low e.high → forth e ≡ twin (forth e) → ⊥
not_its_twin e ordered same = IsBefore-irrefl e.low e.high ordered (ap (λ (h : HalfEdge). h.from) same)

one_of_two : (edges : List Edge) (s t k : ℕ) (h : HalfEdge) (e : Edge) → IsBefore e.low e.high → IsSideOf edges s h k e → IsSideOf edges t h k e → s ≡ t
one_of_two edges s t k h e ordered (at, inl p) (also, inl q) = p.0 ∙ sym q.0
one_of_two edges s t k h e ordered (at, inl p) (also, inr q) = absurd (not_its_twin e ordered (sym p.1 ∙ q.1))
one_of_two edges s t k h e ordered (at, inr p) (also, inl q) = absurd (not_its_twin e ordered (sym q.1 ∙ p.1))
one_of_two edges s t k h e ordered (at, inr p) (also, inr q) = p.0 ∙ sym q.0

module _ (edges : List Edge) (ordered : AreOrdered edges) (once : AllPairs (λ (e f : Edge). e ≢ f) edges) where
  ordered_at : (k : ℕ) (e : Edge) → slice_get edges k ≡ Some e → IsBefore e.low e.high
  ordered_at k e at = All-contains (λ (f : Edge). IsBefore f.low f.high) edges e ordered (Contains-from_read edges k e at)

  -- a half-edge has one number
  pub one_number : (s t : ℕ) (h : HalfEdge) → IsSide edges s h → IsSide edges t h → s ≡ t
  one_number s t h is_s is_t = of (side_of edges s h is_s) (side_of edges t h is_t)
    where
      of : (k : ℕ) × (e : Edge) × IsSideOf edges s h k e → (k : ℕ) × (e : Edge) × IsSideOf edges t h k e → s ≡ t
      of (k, e, is) (j, f, also) =
          let one = one_edge e f h (ordered_at k e is.0) (ordered_at j f also.0) (is_of_edge edges s k h e is) (is_of_edge edges t j h f also) in
          let same : k ≡ j = one_place (λ (a b : Edge). a ≢ b) edges k j e (λ a other. other refl) once is.0 (also.0 ∙ ap Some (sym one)) in
          one_of_two edges s t k h e (ordered_at k e is.0) is
          (subst (λ (d : Edge). IsSideOf edges t h k d) (sym one) (subst (λ m. IsSideOf edges t h m f) (sym same) also))
