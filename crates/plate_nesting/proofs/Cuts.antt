-- Where a list that is two lists one after the other is cut at an element.
use Rattle.std.proofs.Common.{◌≡◌, ◌⊎◌, List, [], ◌∷◌, ◌++◌, inl, inr, refl, sym, ap, subst}
use Rattle.std.specs.Prelude.{Contains}
use Rattle.nest_base.proofs.Lists.{Contains-head, Contains-none}

rest_of : {X : Type 0} → List X → List X
rest_of [] = []
rest_of (x ∷ xs) = xs

first_or : {X : Type 0} → X → List X → X
first_or d [] = d
first_or d (x ∷ xs) = x

pub same_first : {X : Type 0} (x y : X) (xs ys : List X) → x ∷ xs ≡ y ∷ ys → x ≡ y
unfolding first_or
same_first x y xs ys e = ap (first_or x) e

pub same_rest : {X : Type 0} (x y : X) (xs ys : List X) → x ∷ xs ≡ y ∷ ys → xs ≡ ys
unfolding rest_of
same_rest x y xs ys e = ap rest_of e

-- the element stands in the first list, or in the second
pub cut_of_append : {X : Type 0} (xs ys before : List X) (s : X) (after : List X) → xs ++ ys ≡ before ++ s ∷ after →
    ((l : List X) × (xs ≡ before ++ s ∷ l)) ⊎ ((b : List X) × (before ≡ xs ++ b) × (ys ≡ b ++ s ∷ after))
cut_of_append [] ys before s after e = inr (before, refl, e)
cut_of_append (x ∷ xs) ys [] s after e = let h : x ≡ s = same_first x s (xs ++ ys) after e in inl (xs, λ i. h i ∷ xs)
cut_of_append (x ∷ xs) ys (b ∷ before) s after e =
    let h : x ≡ b = same_first x b (xs ++ ys) (before ++ s ∷ after) e in
    let t : xs ++ ys ≡ before ++ s ∷ after = same_rest x b (xs ++ ys) (before ++ s ∷ after) e in
    elim (cut_of_append xs ys before s after t) [
      | inl r ↦ let is : xs ≡ before ++ s ∷ r.0 = r.1 in inl (r.0, λ i. h i ∷ is i)
      | inr r ↦ let is : before ≡ xs ++ r.0 = r.1 in inr (r.0, λ i. sym h i ∷ is i, r.2)
    ]

-- the empty list is cut nowhere
pub no_cut : {X : Type 0} (before : List X) (s : X) (after : List X) → [] ≡ before ++ s ∷ after → ⊥
no_cut [] s after e = Contains-none s (subst (λ l. Contains l s) (sym e) (Contains-head s after))
no_cut (b ∷ before) s after e = Contains-none b (subst (λ l. Contains l b) (sym e) (Contains-head b (before ++ s ∷ after)))
