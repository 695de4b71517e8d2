-- The numbers of twins.
use Rattle.std.proofs.Common.{arith, ◌≡◌, ◌≢◌, inl, inr, ℕ, ◌+◌, ◌-◌, ◌%◌, List, sym, subst}
use Rattle.std.proofs.lemmas.Bool.{cases_eq}
use Rattle.std.proofs.lemmas.Bool.Decides.{nat_tests}
use Rattle.nest_base.specs.declared.places.Edge.{Edge}
use Rattle.nest_base.specs.Plane.{HalfEdge, twin}
use Rattle.half_edges.specs.Numbers.{IsSide}
use Rattle.rotation_systems.specs.Twins.{twin_number}
use Rattle.half_edges.proofs.Numbers.{twin_of_even, twin_of_odd}

twin_number-even : (s : ℕ) → s % 2 ≡ 0 → twin_number s ≡ s + 1
twin_number-even s even = grind (arith, nat_tests)

twin_number-odd : (s : ℕ) → s % 2 ≢ 0 → twin_number s ≡ s - 1
twin_number-odd s odd = grind (arith, nat_tests)

-- the number of the twin
pub IsSide-twin : (edges : List Edge) (s : ℕ) (h : HalfEdge) → IsSide edges s h → IsSide edges (twin_number s) (twin h)
IsSide-twin edges s h is = elim (cases_eq (s % 2) 0) [
  | inl even ↦ subst (λ n. IsSide edges n (twin h)) (sym (twin_number-even s even)) (twin_of_even edges s h is even)
  | inr odd ↦
      let before : s ≡ s - 1 + 1 = omega arith in
      let ends : (s - 1 + 1) % 2 ≡ 1 = omega arith in
      subst (λ n. IsSide edges n (twin h)) (sym (twin_number-odd s odd)) (twin_of_odd edges (s - 1) h (subst (λ n. IsSide edges n h) before is) ends)
]
