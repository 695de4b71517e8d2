-- Numbers between others.
use Rattle.std.proofs.Common.{arith, ℤ, inl, inr}
use Rattle.std.proofs.lemmas.Int.{ints, by_lt_z}
use Rattle.nest_base.specs.Plane.{IsBetween}

pub turned_between : (a m b : ℤ) → IsBetween a m b → IsBetween b m a
turned_between a m b (inl h) = inr h
turned_between a m b (inr h) = inl h

-- the first of two numbers lies between them
pub first_between : (a b : ℤ) → IsBetween a a b
first_between a b = by_lt_z b a (λ less. inr (omega (arith, ints), omega (arith, ints))) (λ at_least. inl (omega (arith, ints), at_least))
