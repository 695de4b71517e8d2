-- Fronts of a burning order: where a list is cut, and one more component at its end.
use Rattle.std.proofs.Common.{arith, ◌≡◌, ℕ, ◌+◌, ◌<◌, ◌≤◌, ◌⊎◌, inl, inr, List, [], ◌∷◌, ◌++◌, length, get_or, take, drop, take-append-drop, refl, sym, ap, ap₂, subst, ◌∙◌}
use Rattle.std.specs.Prelude.{Contains, Option}
use Rattle.std.proofs.lemmas.List.Elements.{Contains-append_left, Contains-push_cases}
use Rattle.std.proofs.lemmas.List.{drop_more}
use Rattle.plate_nesting.specs.Order.{LiesIn, IsReadyAfter, IsFront}

-- a list with one more element at its end is cut before that element, or further in front
pub cut_of_push : (xs finished later : List ℕ) (c x : ℕ) → xs ++ c ∷ [] ≡ finished ++ x ∷ later →
    ((finished ≡ xs) × (c ≡ x)) ⊎ ((rest : List ℕ) × (xs ≡ finished ++ x ∷ rest))
cut_of_push [] [] later c x e = inl (refl, ap (λ l. get_or l 0 0) e)
cut_of_push [] (y ∷ []) later c x e = absurd (omega (arith, ap length e))
cut_of_push [] (y ∷ z ∷ finished) later c x e = absurd (omega (arith, ap length e))
cut_of_push (z ∷ xs) [] later c x e = inr (xs, ap (λ n. n ∷ xs) (ap (λ l. get_or l 0 0) e))
cut_of_push (z ∷ xs) (y ∷ finished) later c x e =
    let first : z ≡ y = ap (λ l. get_or l 0 0) e in
    elim (cut_of_push xs finished later c x (ap (drop 1) e)) [
      | inl (same, is) ↦ inl (ap₂ (λ n l. n ∷ l) (sym first) same, is)
      | inr (rest, same) ↦ inr (rest, ap₂ (λ n l. n ∷ l) first same)
    ]

-- the least of those that are ready goes on
pub front_goes_on : (parents : List (Option ℕ)) (order : List ℕ) (c : ℕ) → IsFront parents order → IsReadyAfter parents order c →
    ((d : ℕ) → IsReadyAfter parents order d → c ≤ d) → IsFront parents (order ++ c ∷ [])
front_goes_on parents order c front ready least = record {
  ready = λ finished x later e. elim (cut_of_push order finished later c x e) [
    | inl (same, is) ↦ subst (IsReadyAfter parents finished) is (subst (λ l. IsReadyAfter parents l c) (sym same) ready)
    | inr (rest, cut) ↦ front.ready finished x rest cut
  ];
  least = λ finished x later e d ready_d. elim (cut_of_push order finished later c x e) [
    | inl (same, is) ↦ subst (λ n. n ≤ d) is (least d (subst (λ l. IsReadyAfter parents l d) same ready_d))
    | inr (rest, cut) ↦ front.least finished x rest cut d ready_d
  ];
}

-- what is ready once c is finished, and isn't its parent, was ready before
pub ready_before : (parents : List (Option ℕ)) (order : List ℕ) (c d : ℕ) → IsReadyAfter parents (order ++ c ∷ []) d → (LiesIn parents c d → ⊥) →
    IsReadyAfter parents order d
ready_before parents order c d ready other = record {
  within = ready.within;
  unfinished = λ there. ready.unfinished (Contains-append_left order (c ∷ []) d there);
  children = λ k lies. elim (Contains-push_cases order c k (ready.children k lies)) [
    | inl before ↦ before
    | inr is ↦ absurd (other (subst (λ n. LiesIn parents n d) (sym is) lies))
  ];
}

-- the component at a place is ready after those in front of it
pub ready_at : (parents : List (Option ℕ)) (order : List ℕ) (j d : ℕ) → IsFront parents order → j < length order → IsReadyAfter parents (take j order) (get_or order j d)
ready_at parents order j d front within =
    front.ready (take j order) (get_or order j d) (drop (j + 1) order) (sym (take-append-drop j order) ∙ ap (λ l. take j order ++ l) (drop_more order j d within))

-- what lies in a finished component is finished
pub children_are_finished : (parents : List (Option ℕ)) (order : List ℕ) (p k : ℕ) → IsFront parents order → Contains order p → LiesIn parents k p → Contains order k
children_are_finished parents order p k front (j, within, at) lies =
    let before = (ready_at parents order j p front within).children k (subst (LiesIn parents k) (sym at) lies) in
    subst (λ l. Contains l k) (take-append-drop j order) (Contains-append_left (take j order) (drop j order) k before)
