-- The order of spokes is the order of half-edges by vertex and angle.
use Rattle.std.proofs.Common.{◌≡◌, ◌≢◌, ◌⊎◌, inl, inr, ℕ, ℤ, ◌<ℤ◌, false, List, refl, sym, ap, ◌∙◌}
use Rattle.std.specs.Prelude.{All, AllPairs}
use Rattle.std.specs.declared.cmp.Ordering.{Ordering}
use Rattle.std.specs.declared.cmp.Ordering.TheVariants.{Less, Equal, Greater}
use Rattle.std.specs.Cmp.{IsTotalOrder}
use Rattle.std.specs.Ordering.{ordering_then, is_lt, is_gt, int_cmp, nat_cmp}
use Rattle.std.proofs.lemmas.Bool.{true≢false}
use Rattle.std.proofs.lemmas.Cmp.{int_cmp_total, nat_cmp_total, on_total, then_total, back_total, by_ranked, int_ranked}
use Rattle.std.proofs.lemmas.Map.Lookups.{exact_signed}
use Rattle.nest_base.specs.declared.places.Edge.{Edge}
use Rattle.nest_base.specs.Plane.{HalfEdge, heading}
use Rattle.nest_base.specs.Angles.{angle_cmp}
use Rattle.nest_base.specs.Order.{IsBefore, IsMarkedBefore}
use Rattle.nest_base.proofs.Comparisons.{both_equal}
use Rattle.nest_base.proofs.Angles.{angle_cmp-total, angle_cmp-equal, angle_cmp-greater}
use Rattle.nest_base.proofs.Directions.{IsSameDirection-sym}
use Rattle.nest_base.proofs.Points.{same_place}
use Rattle.plate_edges.specs.Points.{EdgesMeetAtEndsOnly}
use Rattle.half_edges.specs.declared.rotation.Spoke.{Spoke}
use Rattle.half_edges.specs.Numbers.{IsSide}
use Rattle.half_edges.specs.Rotations.{IsBeforeAllRound}
use Rattle.half_edges.specs.Spokes.{spoke_between, spoke_cmp}
use Rattle.half_edges.proofs.OneWay.{no_one_way, leads_on}

-- each field of a spoke is in total order, and so are they together
pub spoke_cmp-total : IsTotalOrder spoke_cmp
spoke_cmp-total =
    then_total (then_total (on_total (λ (p : Spoke). p.at.x) int_cmp_total) (back_total (on_total (λ (p : Spoke). p.at.y.0) int_cmp_total)))
    (then_total (on_total (λ (p : Spoke). p.toward.0) angle_cmp-total) (on_total (λ (p : Spoke). p.side.0) nat_cmp_total))

-- what isn't less is greater, or ties and isn't less by what decides next
not_less : (r s : Ordering) → is_lt (ordering_then r s) ≡ false → (r ≡ Greater) ⊎ ((r ≡ Equal) × (is_lt s ≡ false))
not_less Less s e = absurd (true≢false e)
not_less Equal s e = inr (refl, e)
not_less Greater s e = inl refl

then_greater : (r s : Ordering) → ordering_then r s ≡ Greater → (r ≡ Greater) ⊎ ((r ≡ Equal) × (s ≡ Greater))
then_greater Less s e = absurd (true≢false (ap is_lt e))
then_greater Equal s e = inr (refl, e)
then_greater Greater s e = inl refl

above : (a b : ℤ) → int_cmp a b ≡ Greater → b <ℤ a
above a b e = by_ranked (a <ℤ b) (a ≡ b) (b <ℤ a) (int_cmp a b) (int_ranked a b (int_cmp a b) refl)
    (λ f h. absurd (true≢false (ap is_lt (sym f ∙ e))))
    (λ f h. absurd (true≢false (sym (ap is_gt (sym f ∙ e)))))
    (λ f h. h)

module _ (edges : List Edge) (order : All (λ (e : Edge). IsBefore e.low e.high) edges) (pairs : AllPairs EdgesMeetAtEndsOnly edges) where
  -- spokes that stand in order are those of half-edges in order
  pub round_from_spokes : (s t : ℕ) (g h : HalfEdge) → s ≢ t → IsSide edges s g → IsSide edges t h →
      is_lt (spoke_cmp (spoke_between h.from h.to t) (spoke_between g.from g.to s)) ≡ false → IsBeforeAllRound g h
  round_from_spokes s t g h apart is_g is_h up =
      of_place (not_less (ordering_then (int_cmp h.from.x g.from.x) (int_cmp g.from.y h.from.y)) (ordering_then (angle_cmp (heading h) (heading g)) (nat_cmp t s)) up)
    where
      by_place : ordering_then (int_cmp h.from.x g.from.x) (int_cmp g.from.y h.from.y) ≡ Greater → IsMarkedBefore g.from h.from
      by_place e = elim (then_greater (int_cmp h.from.x g.from.x) (int_cmp g.from.y h.from.y) e) [
        | inl x ↦ inl (above h.from.x g.from.x x)
        | inr y ↦ inr (sym (exact_signed h.from.x g.from.x y.0), above g.from.y h.from.y y.1)
      ]

      one_place : ordering_then (int_cmp h.from.x g.from.x) (int_cmp g.from.y h.from.y) ≡ Equal → g.from ≡ h.from
      one_place e =
          let both = both_equal (int_cmp h.from.x g.from.x) (int_cmp g.from.y h.from.y) e in
          same_place (sym (exact_signed h.from.x g.from.x both.0)) (exact_signed g.from.y h.from.y both.1)

      of_angle : g.from ≡ h.from → (angle_cmp (heading h) (heading g) ≡ Greater) ⊎ ((angle_cmp (heading h) (heading g) ≡ Equal) × (is_lt (nat_cmp t s) ≡ false)) → IsBeforeAllRound g h
      of_angle at (inl e) = inr (at, (angle_cmp-greater (heading h) (heading g) (leads_on edges t h order is_h) (leads_on edges s g order is_g)).0 e)
      of_angle at (inr tied) =
          let same = (angle_cmp-equal (heading h) (heading g) (leads_on edges t h order is_h) (leads_on edges s g order is_g)).0 tied.0 in
          absurd (no_one_way edges s t g h order pairs apart is_g is_h at (IsSameDirection-sym (heading h) (heading g) same))

      of_place : (ordering_then (int_cmp h.from.x g.from.x) (int_cmp g.from.y h.from.y) ≡ Greater)
          ⊎ ((ordering_then (int_cmp h.from.x g.from.x) (int_cmp g.from.y h.from.y) ≡ Equal) × (is_lt (ordering_then (angle_cmp (heading h) (heading g)) (nat_cmp t s)) ≡ false)) → IsBeforeAllRound g h
      of_place (inl e) = inl (by_place e)
      of_place (inr tied) = of_angle (one_place tied.0) (not_less (angle_cmp (heading h) (heading g)) (nat_cmp t s) tied.1)
