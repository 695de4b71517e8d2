-- Components by number: what a read of the parents gives, and what a push makes.
use Rattle.std.proofs.Common.{arith, ◌≡◌, ℕ, ◌<◌, inl, inr, List, [], ◌∷◌, ◌++◌, length, get_or, refl, sym, ap, subst, ◌∙◌}
use Rattle.std.specs.Prelude.{Option, None, Some, slice_get, option_map}
use Rattle.std.proofs.lemmas.List.{length-map, get_or-map, map_push}
use Rattle.std.proofs.lemmas.Option.{slice_get-get_or, same_Some, none-some}
use Rattle.nest_base.specs.declared.numbers.Component.{Component}
use Rattle.plate_nesting.specs.Order.{LiesIn, ParentsComeFirst}
use Rattle.nest_base.specs.NumberLists.{parent_numbers, component_numbers}
use Rattle.nest_base.proofs.ListReads.{read_of_pushed}

abbrev number : Component → ℕ
number c = c.0

pub length-parents : (parents : List (Option Component)) → length (parent_numbers parents) ≡ length parents
length-parents parents = length-map parents (λ parent. option_map number parent)

parent_at : (parents : List (Option Component)) (c : ℕ) (d : Option Component) → c < length parents →
    slice_get (parent_numbers parents) c ≡ Some (option_map number (get_or parents c d))
parent_at parents c d within =
    slice_get-get_or (parent_numbers parents) c None (omega (arith, within, length-parents parents))
    ∙ ap Some (get_or-map (λ parent. option_map number parent) parents c d None within)

pub inner_read : (parents : List (Option Component)) (c : ℕ) (p : Component) (d : Option Component) → c < length parents → get_or parents c d ≡ Some p →
    LiesIn (parent_numbers parents) c p.0
inner_read parents c p d within is = parent_at parents c d within ∙ ap (λ parent. Some (option_map number parent)) is

-- a parent is one of the components
pub parent_within : (parents : List (Option Component)) (c : ℕ) (p : Component) (d : Option Component) → ParentsComeFirst (parent_numbers parents) → c < length parents →
    get_or parents c d ≡ Some p → p.0 < length (parent_numbers parents)
parent_within parents c p d first within is = omega (arith, first c p.0 (inner_read parents c p d within is), within, length-parents parents)

pub outer_read : (parents : List (Option Component)) (c : ℕ) (d : Option Component) → c < length parents → ((p : Component) → get_or parents c d ≡ Some p → ⊥) →
    slice_get (parent_numbers parents) c ≡ Some None
outer_read parents c d within none = parent_at parents c d within ∙ ap Some (of (get_or parents c d) none)
  where
    of : (parent : Option Component) → ((p : Component) → parent ≡ Some p → ⊥) → option_map number parent ≡ None
    of None none = refl
    of (Some p) none = absurd (none p refl)

pub component_numbers-push : (order : List Component) (c : Component) → component_numbers (order ++ c ∷ []) ≡ component_numbers order ++ c.0 ∷ []
component_numbers-push order c = map_push number order c

-- parents come first where they do in front of the last one, and the last one's does
pub parents_pushed : (parents : List (Option Component)) (last : Option Component) → ParentsComeFirst (parent_numbers parents) →
    ((p : Component) → last ≡ Some p → p.0 < length parents) → ParentsComeFirst (parent_numbers (parents ++ last ∷ []))
parents_pushed parents last first below c p lies =
    elim (read_of_pushed (parent_numbers parents) (option_map number last) c (Some p) (sym (ap (λ l. slice_get l c) (map_push (λ parent. option_map number parent) parents last)) ∙ lies)) [
      | inl before ↦ first c p before
      | inr (end, is) ↦ omega (arith, end, length-parents parents, of last below is)
    ]
  where
    of : (last : Option Component) → ((q : Component) → last ≡ Some q → q.0 < length parents) → option_map number last ≡ Some p → p < length parents
    of None below is = absurd (none-some p is)
    of (Some q) below is = subst (λ n. n < length parents) (same_Some q.0 p is) (below q refl)
