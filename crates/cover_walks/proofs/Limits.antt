-- Chains against the limit, and more outer half-edges.
use Rattle.std.proofs.Common.{◌≡◌, ℕ, ◌≤◌, ◌+◌, List, [], ◌∷◌, ◌⊎◌, inl, inr, refl, arith, suc, zero, Bool, true, false}
use Rattle.rotation_systems.specs.RotationSystem.{RotationSystem}
use Rattle.cover_walks.specs.Orders.{Joined, at_outer, by_along, by_back, by_across, Encloses}
use Rattle.cover_walks.specs.Chains.{limit_of}

-- b breaks; o is 1 where the first vertex is odd, which it is exactly where an odd vertex lies outside; n odd vertices
pub within_limit : (b o n : ℕ) (outer : Bool) → (outer ≡ true → o ≡ 1) → (o ≡ 1 → outer ≡ true) → (b + 1 + o ≤ n) ⊎ ((b ≡ 0) × (o ≡ 0)) → b + 1 ≤ limit_of n outer
within_limit b o zero outer f k (inl h) = absurd (omega arith)
within_limit b o zero outer f k (inr h) = let z = h.0 in omega arith
within_limit b o (suc n) true f k (inl h) = let e = f refl in omega arith
within_limit b o (suc n) true f k (inr h) = let e = f refl in let z = h.1 in absurd (omega arith)
within_limit b o (suc n) false f k (inl h) = omega arith
within_limit b o (suc n) false f k (inr h) = let z = h.0 in omega arith

module _ (g : RotationSystem) (A B : ℕ → Type 0) (f : (s : ℕ) → A s → B s) where
  joined_wider : (l : List ℕ) {s : ℕ} → Joined g A l s → Joined g B l s
  joined_wider l (at_outer {s} o) = at_outer (f s o)
  joined_wider l (by_along j) = by_along (joined_wider l j)
  joined_wider l (by_back j) = by_back (joined_wider l j)
  joined_wider l (by_across h j) = by_across h (joined_wider l j)

  pub encloses_wider : (l : List ℕ) → Encloses g A l → Encloses g B l
  encloses_wider [] h = tt
  encloses_wider (a ∷ l) h = (joined_wider (a ∷ l) h.0, joined_wider (a ∷ l) h.1, encloses_wider l h.2)
