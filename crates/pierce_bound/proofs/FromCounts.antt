-- The bound and the limit of a component, from the number of its odd vertices.
use Rattle.std.proofs.Common.{arith, ℕ, ◌-◌, ◌/◌, ◌<◌, [], ◌∷◌, List, refl, sym, ap}
use Rattle.nest_base.specs.declared.places.Point.{Point}
use Rattle.nest_base.specs.declared.places.Edge.{Edge}
use Rattle.plate_sides.specs.Limit.{IsLimit, no_odd as no_odd_limit, outer_odd, inner_odd}
use Rattle.plate_sides.specs.Starts.{HasOddOuter}
use Rattle.plate_sides.specs.Bound.{IsBound, no_odd, some_odd}
use Rattle.plate_sides.specs.OddCounts.{HasOddCount}

module _ (edges : List Edge) (mark : Point) where
  pub bound_none : HasOddCount edges mark 0 → IsBound edges mark 1
  bound_none ([], are, is) = no_odd are refl
  bound_none (v ∷ odd, are, is) = absurd (omega (arith, is))

  pub bound_some : (n : ℕ) → 0 < n → HasOddCount edges mark n → IsBound edges mark (n / 2)
  bound_some n some (odd, are, is) = some_odd are (omega (arith, some, is)) (ap (λ k. k / 2) (sym is))

  pub limit_none : HasOddCount edges mark 0 → IsLimit edges mark 1
  limit_none ([], are, is) = no_odd_limit are refl
  limit_none (v ∷ odd, are, is) = absurd (omega (arith, is))

  pub limit_outer : (n : ℕ) → HasOddCount edges mark n → HasOddOuter edges mark → IsLimit edges mark (n - 1)
  limit_outer n (odd, are, is) (v, joined, is_odd, outer) = outer_odd are (v, (are.are_all v).1 (joined, is_odd), outer) (ap (λ k. k - 1) (sym is))

  pub limit_inner : (n : ℕ) → 0 < n → HasOddCount edges mark n → (HasOddOuter edges mark → ⊥) → IsLimit edges mark n
  limit_inner n some (odd, are, is) none =
      inner_odd are (omega (arith, some, is)) (λ (v, stands, outer). let facts = (are.are_all v).0 stands in none (v, facts.0, facts.1, outer)) (sym is)
