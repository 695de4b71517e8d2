-- What is selected among the first elements of a list, and one more.
use Rattle.std.proofs.Common.{◌≡◌, ℕ, ◌+◌, List, [], ◌∷◌, ◌++◌, take, sym, subst}
use Rattle.std.specs.Prelude.{Some, slice_get, All}
use Rattle.std.proofs.lemmas.List.Elements.{All-contains}
use Rattle.nest_base.specs.Selection.{Selects}
use Rattle.nest_base.proofs.Lists.{All-from_contains}
use Rattle.nest_base.proofs.Selections.{Selects-origin}
use Rattle.face_nesting.proofs.Prefixes.{take_read}
use Rattle.replay_check.proofs.Selecting.{selects_last, passes_last}

module _ {X : Type 0} (P : X → Type 0) where
  -- the element at the next place has P
  pub one_more_selected : (xs ys : List X) (k : ℕ) (x : X) → slice_get xs k ≡ Some x → Selects P (take k xs) ys → P x →
      Selects P (take (k + 1) xs) (ys ++ x ∷ [])
  one_more_selected xs ys k x at so_far p = subst (λ l. Selects P l (ys ++ x ∷ [])) (sym (take_read xs k x at)) (selects_last P x p so_far)

  -- or hasn't
  pub one_more_passed : (xs ys : List X) (k : ℕ) (x : X) → slice_get xs k ≡ Some x → Selects P (take k xs) ys → (P x → ⊥) →
      Selects P (take (k + 1) xs) ys
  one_more_passed xs ys k x at so_far not_p = subst (λ l. Selects P l ys) (sym (take_read xs k x at)) (passes_last P x not_p so_far)

  -- what all elements have those selected have
  pub All-selected : (Q : X → Type 0) {xs ys : List X} → Selects P xs ys → All Q xs → All Q ys
  All-selected Q {xs} {ys} h all = All-from_contains Q ys (λ y c. All-contains Q xs y all (Selects-origin P h y c).0)
