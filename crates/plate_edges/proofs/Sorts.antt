-- Each list of different things has a permutation in a given strict order.
use Rattle.std.proofs.Common.{◌⊎◌, List, [], ◌∷◌, inl, inr}
use Rattle.std.specs.Prelude.{◌≢◌, All, AllPairs, IsPermutation}
use Rattle.std.proofs.lemmas.List.Elements.{All-nil, All-cons, All-head, All-tail, All-weaker}
use Rattle.std.proofs.lemmas.List.Kept.{AllPairs-cons}
use Rattle.std.proofs.lemmas.List.Sorted.{IsPermutation-refl, IsPermutation-cons, IsPermutation-middle, IsPermutation-trans, IsPermutation-sym, All-permutation}
use Rattle.nest_base.proofs.Lists.{AllPairs-none, AllPairs-first, AllPairs-rest}

-- an order in which two different things stand one way round
pub record IsStrictOrder {X : Type 0} (R : X → X → Type 0) : Type 0 where
  pub asym : (a b : X) → R a b → R b a → ⊥
  pub trans : (a b c : X) → R a b → R b c → R a c
  pub total : (a b : X) → a ≢ b → R a b ⊎ R b a

-- xs in the order R
pub record Sorted {X : Type 0} (R : X → X → Type 0) (xs : List X) : Type 0 where
  pub list : List X
  pub in_order : AllPairs R list
  pub same : IsPermutation xs list

-- x goes to its place in what is in order
put_in : {X : Type 0} (R : X → X → Type 0) → IsStrictOrder R → (x : X) (ys : List X) → AllPairs R ys → All (λ y. x ≢ y) ys →
    Sorted R (x ∷ ys)
put_in R order x [] h apart =
    record { list = x ∷ []; in_order = AllPairs-cons R x [] (All-nil (R x)) (AllPairs-none R); same = IsPermutation-refl (x ∷ []) }
put_in {X} R order x (y ∷ ys) h apart =
    let above : All (R y) ys = AllPairs-first R y ys h in
    elim (order.total x y (All-head (λ z. x ≢ z) y ys apart)) [
      | inl less ↦ record {
        list = x ∷ y ∷ ys;
        in_order = AllPairs-cons R x (y ∷ ys) (All-cons (R x) y ys less (All-weaker (R y) (R x) (λ z. order.trans x y z less) ys above)) h;
        same = IsPermutation-refl (x ∷ y ∷ ys);
      }
      | inr greater ↦
          let rest : Sorted R (x ∷ ys) = put_in R order x ys (AllPairs-rest R y ys h) (All-tail (λ z. x ≢ z) y ys apart) in
          let swapped : IsPermutation (x ∷ y ∷ ys) (y ∷ x ∷ ys) = IsPermutation-sym (y ∷ x ∷ ys) (x ∷ y ∷ ys) (IsPermutation-middle (y ∷ []) x ys) in
          record {
            list = y ∷ rest.list;
            in_order = AllPairs-cons R y rest.list (All-permutation (R y) (x ∷ ys) rest.list rest.same (All-cons (R y) x ys greater above)) rest.in_order;
            same = IsPermutation-trans (x ∷ y ∷ ys) (y ∷ x ∷ ys) (y ∷ rest.list) swapped (IsPermutation-cons y (x ∷ ys) rest.list rest.same);
          }
    ]

-- different things can be put in order
pub sorted : {X : Type 0} (R : X → X → Type 0) → IsStrictOrder R → (xs : List X) → AllPairs (λ x y. x ≢ y) xs → Sorted R xs
sorted R order [] apart = record { list = []; in_order = AllPairs-none R; same = IsPermutation-refl [] }
sorted {X} R order (x ∷ xs) apart =
    let different : X → X → Type 0 = λ x y. x ≢ y in
    let rest : Sorted R xs = sorted R order xs (AllPairs-rest different x xs apart) in
    let from_rest : All (different x) rest.list = All-permutation (different x) xs rest.list rest.same (AllPairs-first different x xs apart) in
    let all : Sorted R (x ∷ rest.list) = put_in R order x rest.list rest.in_order from_rest in
    record {
      list = all.list;
      in_order = all.in_order;
      same = IsPermutation-trans (x ∷ xs) (x ∷ rest.list) all.list (IsPermutation-cons x xs rest.list rest.same) all.same;
    }
