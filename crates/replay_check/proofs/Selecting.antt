-- Selections of a list that is split at one element, and of one that grows at its end.
use Rattle.std.proofs.Common.{arith, ◌≡◌, ℕ, suc, ◌+◌, List, [], ◌∷◌, ◌++◌, length, take, drop, refl, sym, ap, ◌∙◌, subst}
use Rattle.std.specs.Prelude.{Contains, slice_get, Some}
use Rattle.std.proofs.lemmas.List.{length-append}
use Rattle.std.proofs.Math.Seq.{drop-append_seam}
use Rattle.nest_base.proofs.ListReads.{read-drop}
use Rattle.nest_base.specs.Selection.{Selects, none, taken, passed, HasCount}
use Rattle.nest_base.proofs.Lists.{Contains-head, Contains-none}
use Rattle.nest_base.proofs.Selections.{Selects-contains, Selects-origin}
use Rattle.lead_ins.proofs.FirstFits.{split_at}

-- a list, split behind an element by the number of the next one
pub split_there : {X : Type 0} (xs : List X) (k : ℕ) (x : X) → slice_get xs k ≡ Some x → xs ≡ take k xs ++ x ∷ drop (k + 1) xs
split_there xs k x at =
    let behind : suc k ≡ k + 1 = omega (arith) in
    split_at xs k x at ∙ ap (λ n. take k xs ++ x ∷ drop n xs) behind

-- what is selected of a split list is split as well
pub record AreSplit {X : Type 0} (P : X → Type 0) (xs zs ys : List X) : Type 0 where
  pub front : List X
  pub back : List X
  pub of_front : Selects P xs front
  pub of_back : Selects P zs back
  pub joined : ys ≡ front ++ back

pub split_selection : {X : Type 0} (P : X → Type 0) (xs zs : List X) {ys : List X} → Selects P (xs ++ zs) ys → AreSplit P xs zs ys
split_selection P [] zs {ys} h = record { front = []; back = ys; of_front = none; of_back = h; joined = refl }
split_selection P (x ∷ xs) zs (taken p h) = let r = split_selection P xs zs h in
    record { front = x ∷ r.front; back = r.back; of_front = taken p r.of_front; of_back = r.of_back; joined = ap (λ l. x ∷ l) r.joined }
split_selection P (x ∷ xs) zs (passed p h) = let r = split_selection P xs zs h in
    record { front = r.front; back = r.back; of_front = passed p r.of_front; of_back = r.of_back; joined = r.joined }

-- an element with P that comes first is selected
pub first_taken : {X : Type 0} (P : X → Type 0) (x : X) (xs : List X) {ys : List X} → P x → Selects P (x ∷ xs) ys → (rest : List X) × (ys ≡ x ∷ rest)
first_taken P x xs is (taken {ys} p h) = (ys, refl)
first_taken P x xs is (passed p h) = absurd (p is)

-- where one element has P, none before it has
pub none_earlier : {X : Type 0} (P : X → Type 0) (xs : List X) (x : X) (zs : List X) → HasCount P (xs ++ x ∷ zs) 1 → P x → (y : X) → Contains xs y → P y → ⊥
none_earlier P xs x zs (ys, h, one) is y stands too =
    let split = split_selection P xs (x ∷ zs) h in
    let back = first_taken P x zs is split.of_back in
    of split.front back.0 (sym one ∙ ap length (split.joined ∙ ap (λ l. split.front ++ l) back.1)) (Selects-contains P split.of_front y stands too)
  where
    of : (front rest : List _) → 1 ≡ length (front ++ x ∷ rest) → Contains front y → ⊥
    of [] rest e c = Contains-none y c
    of (z ∷ front) rest e c = omega (arith, e, length-append front (x ∷ rest))

-- where an element has P, so many are selected
pub some_selected : {X : Type 0} (P : X → Type 0) (xs : List X) → HasCount P xs 1 → (x : X) × Contains xs x × P x
some_selected P xs ([], h, one) = absurd (omega (arith, one))
some_selected P xs (y ∷ ys, h, one) = let r = Selects-origin P h y (Contains-head y ys) in (y, r.0, r.1)

-- what is selected of two lists is selected of both together
pub joined_selection : {X : Type 0} (P : X → Type 0) {xs zs ys ws : List X} → Selects P xs ys → Selects P zs ws → Selects P (xs ++ zs) (ys ++ ws)
joined_selection P none k = k
joined_selection P (taken p h) k = taken p (joined_selection P h k)
joined_selection P (passed p h) k = passed p (joined_selection P h k)

-- a place that splits a list, told by the number of elements before it
pub split_is_there : {X : Type 0} (before : List X) (x : X) (after : List X) → slice_get (before ++ x ∷ after) (length before) ≡ Some x
split_is_there before x after =
    let here : length before + 0 ≡ length before = omega (arith) in
    subst (λ n. slice_get (before ++ x ∷ after) n ≡ Some x) here (sym (read-drop (length before) (before ++ x ∷ after) 0) ∙ ap (λ l. slice_get l 0) (drop-append_seam before (x ∷ after)))

module _ {X : Type 0} (P : X → Type 0) where
  -- the last element has P
  pub selects_last : {xs ys : List X} (x : X) → P x → Selects P xs ys → Selects P (xs ++ x ∷ []) (ys ++ x ∷ [])
  selects_last x holds none = taken holds none
  selects_last x holds (taken p h) = taken p (selects_last x holds h)
  selects_last x holds (passed q h) = passed q (selects_last x holds h)

  -- or not
  pub passes_last : {xs ys : List X} (x : X) → (P x → ⊥) → Selects P xs ys → Selects P (xs ++ x ∷ []) ys
  passes_last x fails none = passed fails none
  passes_last x fails (taken p h) = taken p (passes_last x fails h)
  passes_last x fails (passed q h) = passed q (passes_last x fails h)
