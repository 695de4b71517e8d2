-- Images of lists, and lists in order.
use Rattle.std.proofs.Common.{arith, ◌≡◌, zero, suc, ◌⊎◌, List, [], ◌∷◌, map, refl, sym, ap, inl, inr, subst, ◌∙◌}
use Rattle.std.specs.Prelude.{Contains, AllPairs}
use Rattle.std.proofs.lemmas.List.Elements.{All-map}
use Rattle.std.proofs.lemmas.List.Kept.{AllPairs-cons}
use Rattle.nest_base.specs.Selection.{EnumeratesBy}
use Rattle.nest_base.proofs.Lists.{Contains-head, Contains-later, Contains-cases, Contains-none, AllPairs-none, AllPairs-first, AllPairs-to_later, AllPairs-rest}

pub Contains-map : {X Y : Type 0} (f : X → Y) (xs : List X) (x : X) → Contains xs x → Contains (map f xs) (f x)
Contains-map f [] x c = absurd (Contains-none x c)
Contains-map f (y ∷ xs) x (zero, h, e) = (0, omega arith, ap f e)
Contains-map f (y ∷ xs) x (suc k, h, e) = Contains-later (f y) (f x) (map f xs) (Contains-map f xs x (k, omega arith, e))

-- each element of the image of a list is the image of an element
pub origin_in : {X Y : Type 0} (f : X → Y) (xs : List X) (y : Y) → Contains (map f xs) y → (x : X) × Contains xs x × (f x ≡ y)
origin_in f [] y c = absurd (Contains-none y c)
origin_in f (x ∷ xs) y (zero, h, e) = (x, Contains-head x xs, e)
origin_in f (x ∷ xs) y (suc k, h, e) =
    let r = origin_in f xs y (k, omega arith, e) in (r.0, Contains-later x r.0 xs r.1, r.2)

pub AllPairs-map : {X Y : Type 0} (R : Y → Y → Type 0) (f : X → Y) (xs : List X) → AllPairs (λ x y. R (f x) (f y)) xs → AllPairs R (map f xs)
AllPairs-map R f [] h = AllPairs-none R
AllPairs-map {X} R f (x ∷ xs) h =
    let related : X → X → Type 0 = λ x y. R (f x) (f y) in
    AllPairs-cons R (f x) (map f xs) (All-map (R (f x)) f xs (AllPairs-first related x xs h)) (AllPairs-map R f xs (AllPairs-rest related x xs h))

-- two elements of a list whose pairs have R are one, or have R in one of the two orders
pub pair_of : {X : Type 0} (R : X → X → Type 0) (x y : X) (xs : List X) → AllPairs R xs → Contains xs x → Contains xs y → (x ≡ y) ⊎ (R x y ⊎ R y x)
pair_of R x y [] h c d = absurd (Contains-none x c)
pair_of R x y (z ∷ xs) h c d = elim (Contains-cases z x xs c) [
  | inl e ↦ elim (Contains-cases z y xs d) [
    | inl f ↦ inl (sym e ∙ f)
    | inr m ↦ inr (inl (subst (λ t. R t y) e (AllPairs-to_later R z y xs h m)))
  ]
  | inr l ↦ elim (Contains-cases z y xs d) [
    | inl f ↦ inr (inr (subst (λ t. R t x) f (AllPairs-to_later R z x xs h l)))
    | inr m ↦ pair_of R x y xs (AllPairs-rest R z xs h) l m
  ]
]

-- two lists in a strict order with the same elements are one list
pub same_elements : {X : Type 0} (R : X → X → Type 0) → ((a b : X) → R a b → R b a → ⊥) → (xs ys : List X) → AllPairs R xs → AllPairs R ys →
    ((z : X) → Contains xs z → Contains ys z) → ((z : X) → Contains ys z → Contains xs z) → xs ≡ ys
same_elements R asym [] [] h k f g = refl
same_elements R asym [] (y ∷ ys) h k f g = absurd (Contains-none y (g y (Contains-head y ys)))
same_elements R asym (x ∷ xs) [] h k f g = absurd (Contains-none x (f x (Contains-head x xs)))
same_elements {X} R asym (x ∷ xs) (y ∷ ys) h k f g =
    let after_x : (z : X) → Contains xs z → R x z = λ z m. AllPairs-to_later R x z xs h m in
    let after_y : (z : X) → Contains ys z → R y z = λ z m. AllPairs-to_later R y z ys k m in
    let first : x ≡ y = elim (Contains-cases y x ys (f x (Contains-head x xs))) [
      | inl e ↦ sym e
      | inr m ↦ elim (Contains-cases x y xs (g y (Contains-head y ys))) [
        | inl e ↦ e
        | inr n ↦ absurd (asym x y (after_x y n) (after_y x m))
      ]
    ] in
    let rest : xs ≡ ys = same_elements R asym xs ys (AllPairs-rest R x xs h) (AllPairs-rest R y ys k)
    (λ z m. elim (Contains-cases y z ys (f z (Contains-later x z xs m))) [
      | inl e ↦ let loop : R x x = subst (R x) (sym (first ∙ e)) (after_x z m) in absurd (asym x x loop loop)
      | inr n ↦ n
    ])
    (λ z m. elim (Contains-cases x z xs (g z (Contains-later y z ys m))) [
      | inl e ↦ let loop : R y y = subst (R y) (sym (sym first ∙ e)) (after_y z m) in absurd (asym y y loop loop)
      | inr n ↦ n
    ]) in
    λ i. first i ∷ rest i

-- what enumerates a property in a strict order is one list
pub same_enumeration : {X : Type 0} (R : X → X → Type 0) (P : X → Type 0) → ((a b : X) → R a b → R b a → ⊥) → (xs ys : List X) →
    EnumeratesBy R P xs → EnumeratesBy R P ys → xs ≡ ys
same_enumeration R P asym xs ys h k =
    same_elements R asym xs ys h.in_order k.in_order (λ z m. (k.are_all z).1 ((h.are_all z).0 m)) (λ z m. (h.are_all z).1 ((k.are_all z).0 m))
