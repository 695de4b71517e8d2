-- The first of some places that fits.
use Rattle.std.proofs.Common.{◌≡◌, ◌≤◌, ℕ, zero, suc, List, [], ◌∷◌, ◌++◌, length, take, drop, sym, ap, subst}
use Rattle.std.specs.Prelude.{All, Contains, IfSome, Option, Some, None, slice_get}
use Rattle.std.proofs.lemmas.List.Elements.{All-weaker}
use Rattle.std.proofs.lemmas.List.{take_all}
use Rattle.std.proofs.lemmas.Option.{none-some, same_Some}
use Rattle.nest_base.specs.declared.places.Point.{Point}
use Rattle.nest_base.proofs.Lists.{Contains-head, Contains-later}
use Rattle.plate_parts.specs.LeadIns.{IsFirstFit, first, none}

-- a list, split where an element stands
pub split_at : {X : Type 0} (xs : List X) (k : ℕ) (x : X) → slice_get xs k ≡ Some x → xs ≡ take k xs ++ x ∷ drop (suc k) xs
split_at [] k x at = absurd (none-some x at)
split_at (y ∷ xs) zero x at = ap (λ z. z ∷ xs) (same_Some y x at)
split_at (y ∷ xs) (suc k) x at = ap (λ zs. y ∷ zs) (split_at xs k x at)

module _ (fits : Point → Type 0) (places : List Point) where
  pub fits_first : (k : ℕ) (q : Point) → slice_get places k ≡ Some q → All (λ p. fits p → ⊥) (take k places) → fits q → IsFirstFit fits places (Some q)
  fits_first k q at before is = first (take k places) (drop (suc k) places) (split_at places k q at) before is

  pub none_fits : (k : ℕ) → length places ≤ k → All (λ p. fits p → ⊥) (take k places) → IsFirstFit fits places None
  none_fits k end before = none (subst (All (λ p. fits p → ⊥)) (take_all k places end) before)

-- what fits by the one fits by the other
pub first_fit_by : (P Q : Point → Type 0) (places : List Point) (answer : Option Point) → ((q : Point) → P q → Q q) → ((q : Point) → Q q → P q) →
    IsFirstFit P places answer → IsFirstFit Q places answer
first_fit_by P Q places answer to back (first before after {q} split others is) =
    first before after split (All-weaker (λ p. P p → ⊥) (λ p. Q p → ⊥) (λ p never holds. never (back p holds)) before others) (to q is)
first_fit_by P Q places answer to back (none others) = none (All-weaker (λ p. P p → ⊥) (λ p. Q p → ⊥) (λ p never holds. never (back p holds)) places others)

-- an element behind others
contains_behind : {X : Type 0} (before after : List X) (x : X) → Contains (before ++ x ∷ after) x
contains_behind [] after x = Contains-head x after
contains_behind (y ∷ before) after x = Contains-later y x (before ++ x ∷ after) (contains_behind before after x)

-- the answer is one of the places
pub is_tried : (fits : Point → Type 0) (places : List Point) (answer : Option Point) → IsFirstFit fits places answer → IfSome answer (Contains places)
is_tried fits places answer (first before after {q} split others is) = subst (λ xs. Contains xs q) (sym split) (contains_behind before after q)
is_tried fits places answer (none others) = tt

pub some_weaker : (P Q : Point → Type 0) (answer : Option Point) → ((q : Point) → P q → Q q) → IfSome answer P → IfSome answer Q
some_weaker P Q (Some q) weaker holds = weaker q holds
some_weaker P Q None weaker holds = tt
