-- The order of places and that of mark vertices are strict.
use Rattle.std.proofs.Common.{arith, ◌≡◌, ◌<ℤ◌, sym, inl, inr, subst, ◌∙◌}
use Rattle.std.proofs.lemmas.Int.{ints}
use Rattle.nest_base.specs.declared.places.Point.{Point}
use Rattle.nest_base.specs.Order.{IsBefore, IsMarkedBefore}

pub IsBefore-asym : (a b : Point) → IsBefore a b → IsBefore b a → ⊥
IsBefore-asym a b (inl h) (inl k) = omega (arith, ints)
IsBefore-asym a b (inl h) (inr k) = omega (arith, ints, k.0)
IsBefore-asym a b (inr h) (inl k) = omega (arith, ints, h.0)
IsBefore-asym a b (inr h) (inr k) = omega (arith, ints, h.1, k.1)

-- no place comes before itself
pub IsBefore-irrefl : (a b : Point) → IsBefore a b → a ≡ b → ⊥
IsBefore-irrefl a b h e = let loop : IsBefore a a = subst (IsBefore a) (sym e) h in IsBefore-asym a a loop loop

pub IsMarkedBefore-asym : (a b : Point) → IsMarkedBefore a b → IsMarkedBefore b a → ⊥
IsMarkedBefore-asym a b (inl h) (inl k) = omega (arith, ints)
IsMarkedBefore-asym a b (inl h) (inr k) = omega (arith, ints, k.0)
IsMarkedBefore-asym a b (inr h) (inl k) = omega (arith, ints, h.0)
IsMarkedBefore-asym a b (inr h) (inr k) = omega (arith, ints, h.1, k.1)

pub IsMarkedBefore-irrefl : (a b : Point) → IsMarkedBefore a b → a ≡ b → ⊥
IsMarkedBefore-irrefl a b h e = let loop : IsMarkedBefore a a = subst (IsMarkedBefore a) (sym e) h in IsMarkedBefore-asym a a loop loop

pub IsMarkedBefore-trans : (a b c : Point) → IsMarkedBefore a b → IsMarkedBefore b c → IsMarkedBefore a c
IsMarkedBefore-trans a b c (inl h) (inl k) = inl (omega (arith, ints))
IsMarkedBefore-trans a b c (inl h) (inr k) = inl (omega (arith, ints, k.0))
IsMarkedBefore-trans a b c (inr h) (inl k) = inl (omega (arith, ints, h.0))
IsMarkedBefore-trans a b c (inr h) (inr k) = inr (h.0 ∙ k.0, omega (arith, ints, h.1, k.1))

-- what lies further west doesn't come later
pub not_west : (p c : Point) → IsMarkedBefore c p → p.x <ℤ c.x → ⊥
not_west p c (inl before) west = omega (arith, ints, before, west)
not_west p c (inr before) west = omega (arith, ints, before.0, west)
