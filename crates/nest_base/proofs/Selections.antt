-- What a list's elements with a property are, and how many.
use Rattle.std.proofs.Common.{arith, ◌≡◌, ℕ, ◌+◌, ◌⊎◌, inl, inr, List, [], ◌∷◌, length, refl, sym, ap, ◌∙◌, subst}
use Rattle.std.specs.Prelude.{Contains, sum_by}
use Rattle.std.proofs.lemmas.List.Sums.{sum_by-cons}
use Rattle.nest_base.specs.Selection.{Selects, none, taken, passed, HasCount}
use Rattle.nest_base.proofs.Lists.{Contains-head, Contains-later, Contains-cases, Contains-none}

-- what is selected is determined
pub same_selection : {X : Type 0} (P : X → Type 0) {xs ys zs : List X} → Selects P xs ys → Selects P xs zs → ys ≡ zs
same_selection P none none = refl
same_selection P (taken {x} p h) (taken q k) = ap (λ l. x ∷ l) (same_selection P h k)
same_selection P (taken p h) (passed q k) = absurd (q p)
same_selection P (passed p h) (taken q k) = absurd (p q)
same_selection P (passed p h) (passed q k) = same_selection P h k

pub same_count : {X : Type 0} (P : X → Type 0) (xs : List X) (m n : ℕ) → HasCount P xs m → HasCount P xs n → m ≡ n
same_count P xs m n (ys, h, e) (zs, k, f) = sym e ∙ ap length (same_selection P h k) ∙ f

pub Selects-contains : {X : Type 0} (P : X → Type 0) {xs ys : List X} → Selects P xs ys → (x : X) → Contains xs x → P x → Contains ys x
Selects-contains P none x c p = absurd (Contains-none x c)
Selects-contains P (taken {x = z} {xs} {ys} q h) x c p = elim (Contains-cases z x xs c) [
  | inl e ↦ subst (Contains (z ∷ ys)) e (Contains-head z ys)
  | inr m ↦ Contains-later z x ys (Selects-contains P h x m p)
]
Selects-contains P (passed {x = z} {xs} {ys} q h) x c p = elim (Contains-cases z x xs c) [
  | inl e ↦ absurd (q (subst P (sym e) p))
  | inr m ↦ Selects-contains P h x m p
]

-- what is selected is an element, and has P
pub Selects-origin : {X : Type 0} (P : X → Type 0) {xs ys : List X} → Selects P xs ys → (y : X) → Contains ys y → Contains xs y × P y
Selects-origin P none y c = absurd (Contains-none y c)
Selects-origin P (taken {x} {xs} {ys} p h) y c = elim (Contains-cases x y ys c) [
  | inl e ↦ (subst (Contains (x ∷ xs)) e (Contains-head x xs), subst P e p)
  | inr m ↦ let r = Selects-origin P h y m in (Contains-later x y xs r.0, r.1)
]
Selects-origin P (passed {x} {xs} n h) y c = let r = Selects-origin P h y c in (Contains-later x y xs r.0, r.1)

-- where all elements have P, all are selected
pub Selects-all : {X : Type 0} (P : X → Type 0) (xs : List X) → ((x : X) → Contains xs x → P x) → Selects P xs xs
Selects-all P [] h = none
Selects-all P (x ∷ xs) h = taken (h x (Contains-head x xs)) (Selects-all P xs (λ y c. h y (Contains-later x y xs c)))

-- where no element has P, none is selected
pub Selects-none : {X : Type 0} (P : X → Type 0) (xs : List X) → ((x : X) → Contains xs x → P x → ⊥) → Selects P xs []
Selects-none P [] h = none
Selects-none P (x ∷ xs) h = passed (h x (Contains-head x xs)) (Selects-none P xs (λ y c. h y (Contains-later x y xs c)))

-- of two selected elements each one that is selected is one
pub one_of_two : {X : Type 0} (P : X → Type 0) (xs : List X) → HasCount P xs 2 →
    (a : X) × (b : X) × ((x : X) → Contains xs x → P x → (a ≡ x) ⊎ (b ≡ x))
one_of_two {X} P xs (ys, h, e) = of ys h e
  where
    of : (ys : List X) → Selects P xs ys → length ys ≡ 2 → (a : X) × (b : X) × ((x : X) → Contains xs x → P x → (a ≡ x) ⊎ (b ≡ x))
    of [] h e = absurd (omega (arith, e))
    of (a ∷ []) h e = absurd (omega (arith, e))
    of (a ∷ b ∷ []) h e = (
      a,
      b,
      λ x c p. elim (Contains-cases a x (b ∷ []) (Selects-contains P h x c p)) [
        | inl f ↦ inl f
        | inr m ↦ elim (Contains-cases b x [] m) [ inl f ↦ inr f | inr o ↦ absurd (Contains-none x o) ]
      ],
    )
    of (a ∷ b ∷ c ∷ ys) h e = absurd (omega (arith, e))

-- a sum of 1 for each element that has P, and 0 for each other, counts those that have it
pub HasCount-by_sum : {X : Type 0} (P : X → Type 0) (f : X → ℕ) (xs : List X) →
    ((x : X) → Contains xs x → (P x × (f x ≡ 1)) ⊎ ((P x → ⊥) × (f x ≡ 0))) → HasCount P xs (sum_by f xs)
HasCount-by_sum P f [] h = ([], none, refl)
HasCount-by_sum P f (x ∷ xs) h =
    let rest = HasCount-by_sum P f xs (λ y c. h y (Contains-later x y xs c)) in
    let sum : sum_by f (x ∷ xs) ≡ f x + sum_by f xs = sum_by-cons f x xs in
    elim (h x (Contains-head x xs)) [
      | inl (p, one) ↦ (x ∷ rest.0, taken p rest.1, omega (arith, sum, one, rest.2))
      | inr (p, zero) ↦ (rest.0, passed p rest.1, omega (arith, sum, zero, rest.2))
    ]
