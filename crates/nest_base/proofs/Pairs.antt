-- A relation between any two elements of a list stays when their order changes.
use Rattle.std.proofs.Common.{arith, ◌≡◌, ◌≢◌, ℕ, ◌<◌, inl, inr, List, length, get_or, refl, sym, ap, subst, ◌∙◌}
use Rattle.std.specs.Prelude.{AllPairs, IsPermutation}
use Rattle.std.specs.List.{swap}
use Rattle.std.proofs.lemmas.Bool.{cases_eq, cases_order}
use Rattle.std.proofs.lemmas.List.Edits.{Swapped, swapped_from_swap, length-swap}
use Rattle.std.proofs.lemmas.List.Sorted.{IsPermutation-keeps}

-- R holds of any two elements, both ways round
abbrev AllOthers : {X : Type 0} → (X → X → Type 0) → List X → Type 0
AllOthers {X} R xs = (i j : ℕ) (d : X) → i < length xs → j < length xs → i ≢ j → R (get_or xs i d) (get_or xs j d)

others_from_pairs : {X : Type 0} (R : X → X → Type 0) → ((x y : X) → R x y → R y x) → (xs : List X) → AllPairs R xs → AllOthers R xs
others_from_pairs R turned xs h i j d p q ne = elim (cases_order i j) [ inl e ↦ absurd (ne e) | inr (inl less) ↦ h i j d less q | inr (inr more) ↦ turned (get_or xs j d) (get_or xs i d) (h j i d more p) ]

carried : {X : Type 0} (R : X → X → Type 0) (a b c d : X) → c ≡ a → d ≡ b → R a b → R c d
carried {X} R a b c d e f r = let P : X → Type 0 = λ x. R x d in let Q : X → Type 0 = λ y. R a y in subst P (sym e) (subst Q (sym f) r)

-- the two indices i and j hold what a and b held, exchanged
others_swapped : {X : Type 0} (R : X → X → Type 0) (f g : ℕ → X) (a b n : ℕ) → Swapped f g a b → a < n → b < n → ((i j : ℕ) → i < n → j < n → i ≢ j → R (f i) (f j)) →
    (i j : ℕ) → i < n → j < n → i ≢ j → R (g i) (g j)
others_swapped R f g a b n s p q h i j k l ne = elim (cases_eq i a) [
  | inl i_a ↦ elim (cases_eq j b) [
    | inl j_b ↦ carried R (f b) (f a) (g i) (g j) (ap g i_a ∙ s.0) (ap g j_b ∙ s.1) (h b a q p (λ e. ne (i_a ∙ sym e ∙ sym j_b)))
    | inr j_not_b ↦ carried R (f b) (f j) (g i) (g j) (ap g i_a ∙ s.0) (s.2 j (λ e. ne (i_a ∙ sym e)) j_not_b) (h b j q l (λ e. j_not_b (sym e)))
  ]
  | inr i_not_a ↦ elim (cases_eq i b) [
    | inl i_b ↦ elim (cases_eq j a) [
      | inl j_a ↦ carried R (f a) (f b) (g i) (g j) (ap g i_b ∙ s.1) (ap g j_a ∙ s.0) (h a b p q (λ e. ne (i_b ∙ sym e ∙ sym j_a)))
      | inr j_not_a ↦ carried R (f a) (f j) (g i) (g j) (ap g i_b ∙ s.1) (s.2 j j_not_a (λ e. ne (i_b ∙ sym e))) (h a j p l (λ e. j_not_a (sym e)))
    ]
    | inr i_not_b ↦ elim (cases_eq j a) [
      | inl j_a ↦ carried R (f i) (f b) (g i) (g j) (s.2 i i_not_a i_not_b) (ap g j_a ∙ s.0) (h i b k q i_not_b)
      | inr j_not_a ↦ elim (cases_eq j b) [
        | inl j_b ↦ carried R (f i) (f a) (g i) (g j) (s.2 i i_not_a i_not_b) (ap g j_b ∙ s.1) (h i a k p i_not_a)
        | inr j_not_b ↦ carried R (f i) (f j) (g i) (g j) (s.2 i i_not_a i_not_b) (s.2 j j_not_a j_not_b) (h i j k l ne)
      ]
    ]
  ]
]

others_after_swap : {X : Type 0} (R : X → X → Type 0) (xs : List X) (a b : ℕ) → a < length xs → b < length xs → AllOthers R xs → AllOthers R (swap xs a b)
others_after_swap R xs a b p q h i j d k l ne =
    let same = length-swap xs a b in
    others_swapped R (λ m. get_or xs m d) (λ m. get_or (swap xs a b) m d) a b (length xs) (swapped_from_swap xs (swap xs a b) a b d p q refl) p q (λ u v. h u v d) i j (omega (arith, same)) (omega (arith, same)) ne

others_permuted : {X : Type 0} (R : X → X → Type 0) (xs ys : List X) → AllOthers R xs → IsPermutation xs ys → AllOthers R ys
others_permuted R xs ys h p = IsPermutation-keeps xs (AllOthers R) h (λ l i j a b k. others_after_swap R l i j a b k) ys p

-- a relation that holds either way round, of each element and each later one, does so in any order
pub AllPairs-permutation : {X : Type 0} (R : X → X → Type 0) → ((x y : X) → R x y → R y x) → (xs ys : List X) → IsPermutation xs ys → AllPairs R xs → AllPairs R ys
AllPairs-permutation R turned xs ys moved h i j d less within =
    others_permuted R xs ys (others_from_pairs R turned xs h) moved i j d (omega arith) within (λ same. omega arith)
