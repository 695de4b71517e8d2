-- Sorted lists: equal elements are neighbours.
use Rattle.std.proofs.Common.{arith, ◌≡◌, ◌≢◌, ℕ, ◌+◌, true, false, List, ◌∷◌, Contains, IsSorted, get_or, drop, length-drop, ap, subst, refl}
use Rattle.std.specs.declared.cmp.Ordering.{Ordering}
use Rattle.std.specs.declared.cmp.Ordering.TheVariants.{Less, Equal, Greater}
use Rattle.std.specs.Cmp.{IsTotalOrder}
use Rattle.std.specs.Ordering.{is_lt, ordering_reverse}
use Rattle.std.proofs.lemmas.Bool.{both_ways}
use Rattle.std.proofs.lemmas.List.{get_or-drop}
use Rattle.std.proofs.lemmas.List.Sorted.{ranks_by, sorted_far}
use Rattle.std.proofs.lemmas.Map.Lookups.{CmpEqualImpliesEq}

-- what is left of a sorted list without its first n elements
pub IsSorted-drop : {X : Type 0} (R : X → X → Ordering) (n : ℕ) (xs : List X) → IsSorted R xs → IsSorted R (drop n xs)
IsSorted-drop R n xs sorted k d low within =
    let next : n + k + 1 ≡ n + (k + 1) = omega arith in
    let kept = sorted (n + k) d (omega arith) (omega (arith, length-drop n xs)) in
    rw (get_or-drop n xs (k + 1) d, get_or-drop n xs k d) (subst (λ m. is_lt (R (get_or xs m d) (get_or xs (n + k) d)) ≡ false) next kept)

-- of two elements neither is less: r and s compare them, each way round
neither_less : (r s : Ordering) → s ≡ ordering_reverse r → is_lt r ≡ false → is_lt s ≡ false → r ≡ Equal
neither_less Less s turned p q = absurd (both_ways true p refl)
neither_less Equal s turned p q = refl
neither_less Greater s turned p q = absurd (both_ways (is_lt s) q (ap is_lt turned))

-- what differs from the element after it doesn't stand later either, where the order tells elements apart
pub not_later : {X : Type 0} {R : X → X → Ordering} → IsTotalOrder R → CmpEqualImpliesEq R → (x y : X) (xs : List X) → IsSorted R (x ∷ y ∷ xs) → x ≢ y → Contains (y ∷ xs) x → ⊥
not_later {X} {R} order exact x y xs sorted apart (k, within, same) =
    let far = sorted_far (λ a b. is_lt (R a b)) (ranks_by order (λ (v : X). v)) (y ∷ xs) (IsSorted-drop R 1 (x ∷ y ∷ xs) sorted) 0 k x (omega arith) within in
    let not_below = subst (λ v. is_lt (R v y) ≡ false) same far in
    apart (exact x y (neither_less (R x y) (R y x) (order.antisymm y x) not_below (sorted 0 x (omega arith) (omega arith))))
