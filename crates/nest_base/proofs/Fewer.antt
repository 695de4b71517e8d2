-- Lists without repeats are no longer than lists that hold their elements.
use Rattle.std.proofs.Common.{arith, ◌≡◌, ◌≢◌, ◌≤◌, ◌+◌, ◌⊎◌, inl, inr, List, [], ◌∷◌, length, sym, subst, ◌∙◌}
use Rattle.std.specs.Prelude.{Contains, AllPairs}
use Rattle.nest_base.proofs.Lists.{Contains-head, Contains-later, Contains-cases, Contains-none, AllPairs-to_later, AllPairs-rest}

-- what is left of a list without one of its elements
abbrev IsWithout : {X : Type 0} → List X → X → List X → Type 0
IsWithout {X} ys y zs = (length ys ≡ length zs + 1) × ((x : X) → Contains ys x → (y ≡ x) ⊎ Contains zs x)

without : {X : Type 0} (ys : List X) (y : X) → Contains ys y → (zs : List X) × IsWithout ys y zs
without [] y stands = absurd (Contains-none y stands)
without {X} (z ∷ ys) y stands = elim (Contains-cases z y ys stands) [
  | inl same ↦ (ys, (omega arith, λ x c. elim (Contains-cases z x ys c) [ inl e ↦ inl (sym same ∙ e) | inr m ↦ inr m ]))
  | inr later ↦
      let rest = without ys y later in
      let split : (x : X) → Contains (z ∷ ys) x → (y ≡ x) ⊎ Contains (z ∷ rest.0) x = λ x c. elim (Contains-cases z x ys c) [
        | inl e ↦ inr (subst (Contains (z ∷ rest.0)) e (Contains-head z rest.0))
        | inr m ↦ elim (rest.1.1 x m) [ inl e ↦ inl e | inr n ↦ inr (Contains-later z x rest.0 n) ]
      ] in
      (z ∷ rest.0, (omega (arith, rest.1.0), split))
]

pub fewer : {X : Type 0} (xs ys : List X) → AllPairs (λ x y. x ≢ y) xs → ((x : X) → Contains xs x → Contains ys x) → length xs ≤ length ys
fewer [] ys apart held = omega arith
fewer {X} (x ∷ xs) ys apart held =
    let rest = without ys x (held x (Contains-head x xs)) in
    let kept : (z : X) → Contains xs z → Contains rest.0 z = λ z c. elim (rest.1.1 z (held z (Contains-later x z xs c))) [
      | inl same ↦ absurd (AllPairs-to_later (λ a b. a ≢ b) x z xs apart c same)
      | inr m ↦ m
    ] in
    omega (arith, rest.1.0, fewer xs rest.0 (AllPairs-rest (λ a b. a ≢ b) x xs apart) kept)
