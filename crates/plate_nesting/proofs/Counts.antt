-- How many elements of a list have a property, where the list is two lists one after the other.
use Rattle.std.proofs.Common.{arith, ◌≡◌, ℕ, ◌+◌, List, [], ◌++◌, length, refl, length-append}
use Rattle.std.specs.Prelude.{Contains, All}
use Rattle.std.proofs.lemmas.List.Elements.{All-contains}
use Rattle.nest_base.specs.Selection.{Selects, HasCount, none, taken, passed}
use Rattle.nest_base.proofs.Selections.{Selects-all, Selects-none}

Selects-append : {X : Type 0} (P : X → Type 0) (xs us ys vs : List X) → Selects P xs us → Selects P ys vs → Selects P (xs ++ ys) (us ++ vs)
Selects-append P _ _ ys vs none k = k
Selects-append P _ _ ys vs (taken {x} {xs} {ys = us} p h) k = taken p (Selects-append P xs us ys vs h k)
Selects-append P _ _ ys vs (passed {x} {xs} {ys = us} n h) k = passed n (Selects-append P xs us ys vs h k)

pub HasCount-append : {X : Type 0} (P : X → Type 0) (xs ys : List X) (m n : ℕ) → HasCount P xs m → HasCount P ys n → HasCount P (xs ++ ys) (m + n)
HasCount-append P xs ys m n h k = (h.0 ++ k.0, Selects-append P xs h.0 ys k.0 h.1 k.1, count)
  where
    count : length (h.0 ++ k.0) ≡ m + n
    count = let e = length-append h.0 k.0 in omega (arith, e, h.2, k.2)

pub HasCount-none : {X : Type 0} (P : X → Type 0) (xs : List X) → ((x : X) → Contains xs x → P x → ⊥) → HasCount P xs 0
HasCount-none P xs h = ([], Selects-none P xs h, refl)

pub HasCount-all : {X : Type 0} (P : X → Type 0) (xs : List X) → All P xs → HasCount P xs (length xs)
HasCount-all P xs h = (xs, Selects-all P xs (λ x c. All-contains P xs x h c), refl)
