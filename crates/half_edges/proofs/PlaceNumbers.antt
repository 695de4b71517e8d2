-- Where a place stands among the places of vertices, as a set of them answers it.
use Rattle.std.proofs.Common.{◌≡◌, ℕ, ◌<◌, Bool, true, false, not, cond, nat_lt, if◌then◌else◌, List, [], ◌∷◌, ◌++◌, Option, None, Some, length, slice_get, position, refl, sym, ap, ◌∙◌}
use Rattle.std.specs.Prelude.{Contains, IfNone}
use Rattle.std.specs.Option.{IsSome}
use Rattle.std.specs.List.{position_or_len}
use Rattle.std.proofs.lemmas.Bool.{false_from_ne_true, not-false, ltb-true}
use Rattle.std.proofs.lemmas.Bool.Decides.{not_from_Decides}
use Rattle.std.proofs.lemmas.List.Sums.{prefix_len_stops}
use Rattle.std.proofs.lemmas.Option.{get_or_from_slice_get, none-some, same_Some}
use Rattle.nest_base.specs.declared.places.Point.{Point}
use Rattle.nest_base.specs.Order.{is_place}
use Rattle.nest_base.proofs.ListReads.{read_below}
use Rattle.nest_base.proofs.Points.{Decides-is_place}
use Rattle.indexmap.specs.IndexSet.{insert_key}
use Rattle.indexmap.proofs.CallerLemmas.{Contains-list_any}

-- what is found unless a fact is false is found where it holds
pub some_found : {X : Type 0} (found : Option X) (P : Type 0) → IfNone found (P → ⊥) → P → IsSome found
some_found None P over holds = absurd (over holds)
some_found (Some x) P over holds = refl

-- where a fact is false, what needs it is false too
pub none_weaker : {X : Type 0} {P Q : Type 0} (found : Option X) → (Q → P) → IfNone found (P → ⊥) → IfNone found (Q → ⊥)
none_weaker None f over = λ holds. over (f holds)
none_weaker (Some x) f found = found

-- what the test of two places says
pub same_by_test : (q p : Point) → is_place q p ≡ true → q ≡ p
same_by_test q p = (Decides-is_place q p).0

pub apart_by_test : (q p : Point) → is_place q p ≡ false → q ≡ p → ⊥
apart_by_test q p = not_from_Decides (is_place q p) (Decides-is_place q p)

-- the place that is found first is the one that is looked for
first_is : (p : Point) (places : List Point) → position_or_len (is_place p) places < length places → slice_get places (position_or_len (is_place p) places) ≡ Some p
first_is p places below =
    let n = position_or_len (is_place p) places in
    let x = read_below places n below in
    let passes : not (is_place p x.0) ≡ false =
    ap (λ q. not (is_place p q)) (sym (get_or_from_slice_get places n x.0 x.0 x.1)) ∙ prefix_len_stops (λ q. not (is_place p q)) places x.0 below in
    x.1 ∙ ap Some (sym (same_by_test p x.0 (not-false (is_place p x.0) passes)))

-- at its number a place is found
pub read_number : (p : Point) (places : List Point) (v : ℕ) → Some v ≡ position (is_place p) places → slice_get places v ≡ Some p
read_number p places v found = of (nat_lt (position_or_len (is_place p) places) (length places)) refl (sym found)
  where
    of : (b : Bool) → nat_lt (position_or_len (is_place p) places) (length places) ≡ b → cond b (Some (position_or_len (is_place p) places)) None ≡ Some v → slice_get places v ≡ Some p
    of true below same =
        ap (slice_get places) (sym (same_Some (position_or_len (is_place p) places) v same)) ∙ first_is p places (ltb-true (position_or_len (is_place p) places) (length places) below)
    of false past same = absurd (none-some v same)

-- a place that isn't there goes last
pub inserted_last : (p : Point) (places : List Point) → (Contains places p → ⊥) → insert_key is_place places p ≡ places ++ p ∷ []
inserted_last p places missing =
    ap (λ found. if found then places else places ++ p ∷ []) (false_from_ne_true _ (λ found. missing (Contains-list_any is_place same_by_test places p found)))
