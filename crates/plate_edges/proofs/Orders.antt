-- The orders of places and of edges are strict.
use Rattle.std.proofs.Common.{arith, ◌≡◌, ◌⊎◌, ℤ, ◌<ℤ◌, true, false, refl, sym, inl, inr, subst, ◌∙◌}
use Rattle.std.specs.Prelude.{◌≢◌}
use Rattle.std.specs.declared.cmp.Ordering.{Ordering}
use Rattle.std.specs.declared.cmp.Ordering.TheVariants.{Less, Equal, Greater}
use Rattle.std.specs.Ordering.{MatchOrdering, int_cmp, ordering_then, is_lt}
use Rattle.std.specs.Cmp.{int_ranks}
use Rattle.std.proofs.lemmas.Int.{ints}
use Rattle.nest_base.specs.declared.places.Point.{Point}
use Rattle.nest_base.specs.declared.places.Edge.{Edge}
use Rattle.nest_base.specs.Order.{IsBefore, place_cmp}
use Rattle.nest_base.proofs.Orders.{IsBefore-asym, IsBefore-irrefl}
use Rattle.nest_base.proofs.Points.{same_place}
use Rattle.nest_base.proofs.Signs.{by_order_z}
use Rattle.plate_edges.specs.Edges.{IsEdgeBefore}
use Rattle.plate_edges.proofs.Sorts.{IsStrictOrder}

pub same_edge : {e f : Edge} → e.low ≡ f.low → e.high ≡ f.high → e ≡ f
same_edge l h i = record { low = l i; high = h i }

pub IsBefore-trans : (a b c : Point) → IsBefore a b → IsBefore b c → IsBefore a c
IsBefore-trans a b c (inl h) (inl k) = inl (omega (arith, ints))
IsBefore-trans a b c (inl h) (inr k) = inl (omega (arith, ints, k.0))
IsBefore-trans a b c (inr h) (inl k) = inl (omega (arith, ints, h.0))
IsBefore-trans a b c (inr h) (inr k) = inr (h.0 ∙ k.0, omega (arith, ints, h.1, k.1))

pub IsEdgeBefore-asym : (e f : Edge) → IsEdgeBefore e f → IsEdgeBefore f e → ⊥
IsEdgeBefore-asym e f (inl h) (inl k) = IsBefore-asym e.low f.low h k
IsEdgeBefore-asym e f (inl h) (inr k) = IsBefore-irrefl e.low f.low h (sym k.0)
IsEdgeBefore-asym e f (inr h) (inl k) = IsBefore-irrefl f.low e.low k (sym h.0)
IsEdgeBefore-asym e f (inr h) (inr k) = IsBefore-asym e.high f.high h.1 k.1

pub IsEdgeBefore-trans : (e f g : Edge) → IsEdgeBefore e f → IsEdgeBefore f g → IsEdgeBefore e g
IsEdgeBefore-trans e f g (inl h) (inl k) = inl (IsBefore-trans e.low f.low g.low h k)
IsEdgeBefore-trans e f g (inl h) (inr k) = inl (subst (IsBefore e.low) k.0 h)
IsEdgeBefore-trans e f g (inr h) (inl k) = inl (subst (λ p. IsBefore p g.low) (sym h.0) k)
IsEdgeBefore-trans e f g (inr h) (inr k) = inr (h.0 ∙ k.0, IsBefore-trans e.high f.high g.high h.1 k.1)

-- places are one, or come one before the other
pub by_order : {P : Type 0} (a b : Point) → (IsBefore a b → P) → (a ≡ b → P) → (IsBefore b a → P) → P
by_order a b less same greater = by_order_z a.x b.x (λ h. less (inl h))
    (λ level. by_order_z a.y b.y (λ h. less (inr (level, h))) (λ h. same (same_place level h)) (λ h. greater (inr (sym level, h))))
    (λ h. greater (inl h))

pub IsEdgeBefore-total : (e f : Edge) → e ≢ f → IsEdgeBefore e f ⊎ IsEdgeBefore f e
IsEdgeBefore-total e f apart = by_order e.low f.low (λ h. inl (inl h))
    (λ low. by_order e.high f.high (λ h. inl (inr (low, h))) (λ high. absurd (apart (same_edge low high))) (λ h. inr (inr (sym low, h))))
    (λ h. inr (inl h))

pub IsEdgeBefore-is_strict : IsStrictOrder IsEdgeBefore
IsEdgeBefore-is_strict = record { asym = IsEdgeBefore-asym; trans = IsEdgeBefore-trans; total = IsEdgeBefore-total }

-- an edge doesn't go the other way round
pub turned_order : (e f : Edge) → e.low ≡ f.high → e.high ≡ f.low → IsBefore e.low e.high → IsBefore f.low f.high → ⊥
turned_order e f l h order other = IsBefore-asym e.low e.high order (subst (λ p. IsBefore p e.low) (sym h) (subst (IsBefore f.low) (sym l) other))

-- r is how a compares to b
abbrev Compares : Ordering → ℤ → ℤ → Type 0
Compares r a b = MatchOrdering r (a <ℤ b) (a ≡ b) (b <ℤ a)

-- what comparisons of coordinates say of the order
lt_by : (r t : Ordering) (a b : Point) → Compares r a.x b.x → Compares t a.y b.y → IsBefore a b → is_lt (ordering_then r t) ≡ true
lt_by Less t a b x y h = refl
lt_by Equal Less a b x y h = refl
lt_by Equal Equal a b x y h = absurd (IsBefore-irrefl a b h (same_place x y))
lt_by Equal Greater a b x y h = absurd (IsBefore-asym a b h (inr (sym x, y)))
lt_by Greater t a b x y h = absurd (IsBefore-asym a b h (inl x))

not_lt_by : (r t : Ordering) (a b : Point) → Compares r a.x b.x → Compares t a.y b.y → IsBefore b a → is_lt (ordering_then r t) ≡ false
not_lt_by Less t a b x y h = absurd (IsBefore-asym a b (inl x) h)
not_lt_by Equal Less a b x y h = absurd (IsBefore-asym a b (inr (x, y)) h)
not_lt_by Equal Equal a b x y h = refl
not_lt_by Equal Greater a b x y h = refl
not_lt_by Greater t a b x y h = refl

-- the comparison of places follows the order
pub lt_before : (a b : Point) → IsBefore a b → is_lt (place_cmp a b) ≡ true
lt_before a b h = lt_by (int_cmp a.x b.x) (int_cmp a.y b.y) a b (int_ranks a.x b.x) (int_ranks a.y b.y) h

pub not_lt_after : (a b : Point) → IsBefore b a → is_lt (place_cmp a b) ≡ false
not_lt_after a b h = not_lt_by (int_cmp a.x b.x) (int_cmp a.y b.y) a b (int_ranks a.x b.x) (int_ranks a.y b.y) h
