-- What is left of a list that was sorted and then rid of repeats.
use Rattle.std.proofs.Common.{◌≡◌, ◌↔◌, ◌∙◌, Bool, List, [], ◌∷◌, Contains, IsPermutation, IsSorted, subst, sym}
use Rattle.std.specs.Prelude.{AllPairs}
use Rattle.std.specs.declared.cmp.Ordering.{Ordering}
use Rattle.std.specs.declared.cmp.Ordering.TheVariants.{Less}
use Rattle.std.specs.Cmp.{IsTotalOrder, IsEquivalence, Equal-is}
use Rattle.std.specs.List.{dedup}
use Rattle.std.specs.List.Retain.{IsFiltered, DiffersFromLast}
use Rattle.std.specs.List.Sorted.{IsStrictlySortedBy}
use Rattle.std.specs.Ordering.{eq_by_cmp}
use Rattle.std.proofs.lemmas.Cmp.{eq_by_cmp_equiv}
use Rattle.std.proofs.lemmas.List.Elements.{All-from_recursion}
use Rattle.std.proofs.lemmas.List.Filters.{dedup_is}
use Rattle.std.proofs.lemmas.List.Kept.{AllPairs-cons, Contains-dedup, Contains-from_dedup, IsStrictlySortedBy-dedup}
use Rattle.std.proofs.lemmas.List.Sorted.{Contains-permutation, IsPermutation-sym}
use Rattle.std.proofs.lemmas.Map.Lookups.{CmpEqualImpliesEq}
use Rattle.nest_base.specs.Selection.{EnumeratesBy}
use Rattle.nest_base.proofs.Lists.{AllPairs-none}

-- what is strictly sorted is so in pairs
pairs_in_order : {X : Type 0} (R : X → X → Ordering) (xs : List X) → IsStrictlySortedBy R xs → AllPairs (λ x y. R x y ≡ Less) xs
unfolding IsStrictlySortedBy
pairs_in_order R [] sorted = AllPairs-none (λ x y. R x y ≡ Less)
pairs_in_order R (x ∷ xs) sorted = AllPairs-cons (λ x y. R x y ≡ Less) x xs (All-from_recursion (λ y. R x y ≡ Less) xs sorted.0) (pairs_in_order R xs sorted.1)

-- it has the same elements, each once, in order; E is equality by R
pub deduplicated : {X : Type 0} {R : X → X → Ordering} {E : X → X → Bool} → IsTotalOrder R → ((x y : X) → E x y ≡ eq_by_cmp R x y) → CmpEqualImpliesEq R →
    (before between after : List X) → IsPermutation before between → IsSorted R between → IsFiltered (DiffersFromLast E) [] between after →
    EnumeratesBy (λ x y. R x y ≡ Less) (Contains before) after
deduplicated {X} {R} {E} order ties exact before between after moved sorted filtered =
    let is = dedup_is E between after filtered in
    let same : IsEquivalence E = subst IsEquivalence (sym (λ i x y. ties x y i)) (eq_by_cmp_equiv order) in
    record {
      in_order = rw is (pairs_in_order R (dedup E between) (IsStrictlySortedBy-dedup order ties between sorted));
      are_all = λ x. (
        λ c. Contains-permutation between before x (IsPermutation-sym before between moved) (Contains-from_dedup E between x (subst (λ ys. Contains ys x) is c)),
        λ c. rw is (Contains-dedup same (λ y z e. exact y z ((Equal-is (R y z)).0 (sym (ties y z) ∙ e))) between x (Contains-permutation before between x moved c)),
      );
    }

-- a list of all things with P, in the order R, is one of all things with Q, in the order S, where Q comes to the same as P and S
-- holds wherever R does
pub enumerates_too : {X : Type 0} (R S : X → X → Type 0) (P Q : X → Type 0) → ((x y : X) → R x y → S x y) → ((x : X) → P x ↔ Q x) → (xs : List X) →
    EnumeratesBy R P xs → EnumeratesBy S Q xs
enumerates_too R S P Q order same xs h = record {
  in_order = λ i j d less within. order _ _ (h.in_order i j d less within);
  are_all = λ x. (λ c. (same x).0 ((h.are_all x).0 c), λ q. (h.are_all x).1 ((same x).1 q));
}
