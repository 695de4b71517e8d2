-- Comparisons of places, by x, then by y.
use Rattle.std.proofs.Common.{arith, ◌≡◌, ◌&&◌, ◌==◌, ◌⊎◌, ◌↔◌, IsTrue, ℤ, ◌<ℤ◌, sym, ap, refl, inl, inr}
use Rattle.std.proofs.lemmas.Int.{ints}
use Rattle.std.specs.declared.cmp.Ordering.{Ordering}
use Rattle.std.specs.declared.cmp.Ordering.TheVariants.{Less, Equal, Greater}
use Rattle.std.specs.Cmp.{IsTotalOrder, int_ranks}
use Rattle.std.specs.Ordering.{MatchOrdering, int_cmp, ordering_then, ordering_index, is_eq}
use Rattle.std.proofs.lemmas.Bool.{true≢false}
use Rattle.std.proofs.lemmas.Cmp.{int_cmp_total, on_total, then_total}
use Rattle.std.proofs.lemmas.Map.Lookups.{CmpEqualImpliesEq, exact_signed}
use Rattle.nest_base.specs.declared.places.Point.{Point}
use Rattle.nest_base.specs.Order.{place_cmp}
use Rattle.nest_base.proofs.Points.{same_place}

-- one comparison and then another end equal where both do
pub both_equal : (r s : Ordering) → ordering_then r s ≡ Equal → (r ≡ Equal) × (s ≡ Equal)
both_equal Less s e = absurd (true≢false (sym (ap is_eq e)))
both_equal Equal s e = (refl, e)
both_equal Greater s e = absurd (true≢false (sym (ap is_eq e)))

-- and the tests for equality agree
pub is_eq-both : (r s : Ordering) → (is_eq r && is_eq s) ≡ is_eq (ordering_then r s)
is_eq-both Less s = refl
is_eq-both Equal s = refl
is_eq-both Greater s = refl

-- the comparison of places is a total order
pub place_order : IsTotalOrder place_cmp
place_order = then_total (on_total (λ (p : Point). p.x) int_cmp_total) (on_total (λ (p : Point). p.y) int_cmp_total)

-- places that compare as equal are one
pub places_apart : CmpEqualImpliesEq place_cmp
places_apart a b tied =
    let both = both_equal (int_cmp a.x b.x) (int_cmp a.y b.y) tied in
    same_place (exact_signed a.x b.x both.0) (exact_signed a.y b.y both.1)

-- one comparison and then another end less where the first does, or is a tie and the second does
pub then_is_less : (a b x y : ℤ) → IsTrue (ordering_index (ordering_then (int_cmp a b) (int_cmp x y)) == 0) ↔ ((a <ℤ b) ⊎ ((a ≡ b) × (x <ℤ y)))
then_is_less a b x y = ranked (int_cmp a b) (int_cmp x y) (int_ranks a b) (int_ranks x y)
  where
    ranked : (r s : Ordering) → MatchOrdering r (a <ℤ b) (a ≡ b) (b <ℤ a) → MatchOrdering s (x <ℤ y) (x ≡ y) (y <ℤ x) →
        IsTrue (ordering_index (ordering_then r s) == 0) ↔ ((a <ℤ b) ⊎ ((a ≡ b) × (x <ℤ y)))
    ranked Less s p q = (λ _. inl p, λ _. refl)
    ranked Equal Less p q = (λ _. inr (p, q), λ _. refl)
    ranked Equal Equal p q = (λ e. absurd (true≢false (sym e)), λ (h : (a <ℤ b) ⊎ ((a ≡ b) × (x <ℤ y))). elim h [ inl less ↦ absurd (omega (arith, ints, p, less)) | inr both ↦ absurd (omega (arith, ints, q, both.1)) ])
    ranked Equal Greater p q = (λ e. absurd (true≢false (sym e)), λ (h : (a <ℤ b) ⊎ ((a ≡ b) × (x <ℤ y))). elim h [ inl less ↦ absurd (omega (arith, ints, p, less)) | inr both ↦ absurd (omega (arith, ints, q, both.1)) ])
    ranked Greater s p q = (λ e. absurd (true≢false (sym e)), λ (h : (a <ℤ b) ⊎ ((a ≡ b) × (x <ℤ y))). elim h [ inl less ↦ absurd (omega (arith, ints, p, less)) | inr both ↦ absurd (omega (arith, ints, p, both.0)) ])
