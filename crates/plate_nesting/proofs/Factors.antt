-- Integers compared by their products with a positive number.
use Rattle.std.proofs.Common.{arith, ◌≡◌, ◌⊎◌, ℤ, pos, ◌-ℤ◌, ◌*ℤ◌, ◌<ℤ◌, ◌≤ℤ◌, inl, inr, ap}
use Rattle.std.proofs.lemmas.Int.{ints, by_lt_z}
use Rattle.nest_base.proofs.Differences.{diff_of, diffs, diff_same}
use Rattle.nest_base.proofs.Signs.{mul_pos, by_order_z}

pub less_or_not : (a b : ℤ) → (a <ℤ b) ⊎ (b ≤ℤ a)
less_or_not a b = by_lt_z a b (λ less. inl less) (λ at_least. inr at_least)

-- a factor spreads over a difference
spread : (f a b : ℤ) → f *ℤ (a -ℤ b) ≡ (f *ℤ a) -ℤ (f *ℤ b)
spread f a b = rw (diff_of f, diff_of a, diff_of b) (simp diffs (diff_same _ _ _ _ (omega arith)))

pub mul_less : (f a b : ℤ) → pos 0 <ℤ f → a <ℤ b → (f *ℤ a) <ℤ (f *ℤ b)
mul_less f a b some h =
    let more : pos 0 <ℤ (f *ℤ (b -ℤ a)) = mul_pos f (b -ℤ a) some (omega (arith, ints, h)) in
    omega (arith, ints, more, spread f b a)

pub le_of_mul : (f a b : ℤ) → pos 0 <ℤ f → (f *ℤ a) ≤ℤ (f *ℤ b) → a ≤ℤ b
le_of_mul f a b some h = by_lt_z b a (λ less. absurd (omega (arith, ints, mul_less f b a some less, h))) (λ at_least. at_least)

pub less_of_mul : (f a b : ℤ) → pos 0 <ℤ f → (f *ℤ a) <ℤ (f *ℤ b) → a <ℤ b
less_of_mul f a b some h =
    by_order_z a b (λ less. less) (λ same. let level : f *ℤ a ≡ f *ℤ b = ap (λ k. f *ℤ k) same in absurd (omega (arith, ints, level, h)))
    (λ greater. absurd (omega (arith, ints, mul_less f b a some greater, h)))

pub eq_of_mul : (f a b : ℤ) → pos 0 <ℤ f → f *ℤ a ≡ f *ℤ b → a ≡ b
eq_of_mul f a b some h =
    let one : a ≤ℤ b = le_of_mul f a b some (omega (arith, ints, h)) in
    let other : b ≤ℤ a = le_of_mul f b a some (omega (arith, ints, h)) in
    omega (arith, ints, one, other)
