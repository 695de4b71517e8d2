-- A name in a list of files, and what a change at its place does.
use Rattle.std.proofs.Common.{arith, ◌≡◌, ◌≢◌, ℕ, ◌≤◌, Bool, true, false, cond, not, List, [], ◌∷◌, ◌++◌, length, get_or, set, ap, ◌∙◌, sym, refl, nat_lt}
use Rattle.std.specs.Prelude.{Some, None, find, position, option_and_then, option_map, unwrap_or}
use Rattle.std.specs.Option.{option_or}
use Rattle.std.specs.declared.option.Option.{Option}
use Rattle.std.specs.List.{position_or_len}
use Rattle.std.specs.Str.{bytes_eq}
use Rattle.std.proofs.lemmas.List.Folds.{find_at, find-set, find_past, find-append, position_or_len_push}
use Rattle.std.proofs.lemmas.List.Sums.{prefix_len-le-length}
use Rattle.std.proofs.lemmas.List.Quantifiers.{position-Some}
use Rattle.std.proofs.lemmas.Option.{slice_get-get_or, slice_get_past}
use Rattle.std.proofs.lemmas.Bool.{true≢false}
use Rattle.std.proofs.lemmas.Slice.Eq.{bytes_eq-Decides}
use Rattle.std.proofs.lemmas.Grind.{common_steps}
use Rattle.cut_desk.specs.Memory.{Stored, has_name, file_in, room_in, GrowsRoom, ReplacesFile}

abbrev kept_file : Option Stored → Option (List ℕ)
kept_file kept = option_and_then (λ slot. slot.file) kept

abbrev kept_room : Option Stored → ℕ
kept_room kept = unwrap_or (option_map (λ slot. slot.room) kept) 0

-- the place that `position` answers, where it answers one
the_place : (b : Bool) (n i : ℕ) → cond b (Some n) None ≡ Some i → i ≡ n
the_place true n i e = cc
the_place false n i e = cc

place_is : (slots : List Stored) (name : List ℕ) (i : ℕ) → position (has_name name) slots ≡ Some i → i ≡ position_or_len (has_name name) slots
place_is slots name i e = the_place (nat_lt (position_or_len (has_name name) slots) (length slots)) (position_or_len (has_name name) slots) i e

-- what is kept under a name stands at its place
found_at : (slots : List Stored) (name : List ℕ) (i : ℕ) (d : Stored) → position (has_name name) slots ≡ Some i → find (has_name name) slots ≡ Some (get_or slots i d)
found_at slots name i d e =
    let within = (position-Some (has_name name) slots i d e).0 in
    find_at (has_name name) slots ∙ rw (← place_is slots name i e) (slice_get-get_or slots i d within)

-- where it answers none, the search ran past the end
no_place : (b : Bool) (n m : ℕ) → nat_lt n m ≡ b → cond b (Some n) None ≡ None → nat_lt n m ≡ false
no_place true n m test e = cc
no_place false n m test e = test

place_at_end : (slots : List Stored) (name : List ℕ) → position (has_name name) slots ≡ None → position_or_len (has_name name) slots ≡ length slots
place_at_end slots name e =
    let n : ℕ = position_or_len (has_name name) slots in
    let past : nat_lt n (length slots) ≡ false = no_place (nat_lt n (length slots)) n (length slots) refl e in
    let bound : n ≤ length slots = prefix_len-le-length (λ slot. not (has_name name slot)) slots in
    grind (arith, common_steps)

-- nothing is kept under a name that has no place
found_nowhere : (slots : List Stored) (name : List ℕ) → position (has_name name) slots ≡ None → find (has_name name) slots ≡ None
found_nowhere slots name e = find_at (has_name name) slots ∙ rw (place_at_end slots name e) (slice_get_past slots (length slots) (omega arith))

-- one name is kept with `old`, then with `new`, and every other name as before
record ChangesOne (name : List ℕ) (slots slots' : List Stored) (old new : Stored) : Type 0 where
  pub before : find (has_name name) slots ≡ Some old
  pub after : find (has_name name) slots' ≡ Some new
  pub others : (other : List ℕ) → other ≢ name → find (has_name other) slots' ≡ find (has_name other) slots

-- a name that is kept elsewhere is another
other_name : (name other : List ℕ) (slot : Stored) → has_name name slot ≡ true → other ≢ name → has_name other slot ≡ false
other_name name other slot named differs = at (has_name other slot) refl where
  at : (b : Bool) → has_name other slot ≡ b → has_name other slot ≡ false
  at true same = absurd (differs (sym ((bytes_eq-Decides slot.name other).0 same) ∙ (bytes_eq-Decides slot.name name).0 named))
  at false same = same

-- the slot at the place of a name is replaced by one of the same name
changes_one : (slots : List Stored) (name : List ℕ) (i : ℕ) (old new : Stored) → position (has_name name) slots ≡ Some i → old ≡ get_or slots i old → new.name ≡ old.name → ChangesOne name slots (set slots i new) old new
changes_one slots name i old new e there same =
    let place = position-Some (has_name name) slots i old e in
    let old_named : has_name name old ≡ true = rw (← there) at place.1 in
    let new_named : has_name name new ≡ true = ap (λ (n : List ℕ). bytes_eq n name) same ∙ old_named in
    record {
      before = found_at slots name i old e ∙ ap (λ (slot : Stored). Some slot) (sym there);
      after = find-set (has_name name) slots i new (place_is slots name i e) place.0 new_named;
      others = λ other differs. find_past (has_name other) slots i new old (other_name name other (get_or slots i old) place.1 differs) (other_name name other new new_named differs);
    }

-- the place of a name that was added at the end
pub place_added : (slots : List Stored) (name : List ℕ) (new : Stored) → position (has_name name) slots ≡ None → new.name ≡ name → position (has_name name) (slots ++ new ∷ []) ≡ Some (length slots)
place_added slots name new e named =
    let is_named : has_name name new ≡ true = (bytes_eq-Decides new.name name).1 named in
    let place : position_or_len (has_name name) (slots ++ new ∷ []) ≡ length slots = position_or_len_push (has_name name) slots new ∙ rw (place_at_end slots name e, is_named) (grind (arith, common_steps)) in
    rw place (grind (arith, common_steps))

-- a slot behind all others, with no file and no room, shows nothing
file_past : (kept : Option Stored) (b : Bool) (new : Stored) → new.file ≡ None → option_and_then (λ slot. slot.file) (option_or kept (cond b (Some new) None)) ≡ option_and_then (λ slot. slot.file) kept
file_past None true new none = none
file_past None false new none = refl
file_past (Some slot) b new none = refl

room_past : (kept : Option Stored) (b : Bool) (new : Stored) → new.room ≡ 0 → unwrap_or (option_map (λ slot. slot.room) (option_or kept (cond b (Some new) None))) 0 ≡ unwrap_or (option_map (λ slot. slot.room) kept) 0
room_past None true new none = none
room_past None false new none = refl
room_past (Some slot) b new none = refl

-- a name that is added with no file and no room changes no file and no room
pub file_added : (slots : List Stored) (new : Stored) (other : List ℕ) → new.file ≡ None → file_in (slots ++ new ∷ []) other ≡ file_in slots other
file_added slots new other none = ap kept_file (find-append (has_name other) slots (new ∷ [])) ∙ file_past (find (has_name other) slots) (has_name other new) new none

pub room_added : (slots : List Stored) (new : Stored) (other : List ℕ) → new.room ≡ 0 → room_in (slots ++ new ∷ []) other ≡ room_in slots other
room_added slots new other none = ap kept_room (find-append (has_name other) slots (new ∷ [])) ∙ room_past (find (has_name other) slots) (has_name other new) new none

-- what holds of the changed slot, and of every slot and itself, holds of every name before and after the change
each_name : (R : Option Stored → Option Stored → Type 0) (name : List ℕ) (slots slots' : List Stored) (old new : Stored) → ChangesOne name slots slots' old new → R (Some old) (Some new) → ((kept : Option Stored) → R kept kept) → (other : List ℕ) → R (find (has_name other) slots) (find (has_name other) slots')
each_name R name slots slots' old new change changed same other = at (bytes_eq other name) refl where
  at : (b : Bool) → bytes_eq other name ≡ b → R (find (has_name other) slots) (find (has_name other) slots')
  at true e = rw ((bytes_eq-Decides other name).0 e, change.before, change.after) changed
  at false e = rw (change.others other (λ one. true≢false (sym ((bytes_eq-Decides other name).1 one) ∙ e))) (same (find (has_name other) slots))

-- a file is put at the place of a name
pub puts_file : (slots : List Stored) (name bytes : List ℕ) (i : ℕ) (old new : Stored) → position (has_name name) slots ≡ Some i → old ≡ get_or slots i old → new ≡ record old { file = Some bytes } → ReplacesFile name bytes slots (set slots i new)
puts_file slots name bytes i old new place there is =
    let change : ChangesOne name slots (set slots i new) old new = changes_one slots name i old new place there (ap (λ (slot : Stored). slot.name) is) in
    record {
      file = ap kept_file change.after ∙ ap (λ (slot : Stored). slot.file) is;
      others = λ other differs. ap kept_file (change.others other differs);
      rooms = each_name (λ was is. kept_room is ≡ kept_room was) name slots (set slots i new) old new change (ap (λ (slot : Stored). slot.room) is) (λ kept. refl);
    }

-- the same where the name may have been added just before
pub puts_new : (before slots : List Stored) (name bytes : List ℕ) (i : ℕ) (old new : Stored) → ((other : List ℕ) → file_in slots other ≡ file_in before other) → ((other : List ℕ) → room_in slots other ≡ room_in before other) → position (has_name name) slots ≡ Some i → old ≡ get_or slots i old → new ≡ record old { file = Some bytes } → ReplacesFile name bytes before (set slots i new)
puts_new before slots name bytes i old new files rooms place there is =
    let puts = puts_file slots name bytes i old new place there is in
    record {
      file = puts.file;
      others = λ other differs. puts.others other differs ∙ files other;
      rooms = λ other. puts.rooms other ∙ rooms other;
    }

-- the room at the place of a name grows, and no other
pub grows_room : (before slots : List Stored) (name : List ℕ) (i : ℕ) (old new : Stored) → ((other : List ℕ) → file_in slots other ≡ file_in before other) → ((other : List ℕ) → room_in slots other ≡ room_in before other) → position (has_name name) slots ≡ Some i → old ≡ get_or slots i old → new ≡ record old { room = new.room } → old.room ≤ new.room → GrowsRoom name before (set slots i new)
grows_room before slots name i old new files rooms place there is larger =
    let change : ChangesOne name slots (set slots i new) old new = changes_one slots name i old new place there (ap (λ (slot : Stored). slot.name) is) in
    record {
      files = λ other. each_name (λ was is. kept_file is ≡ kept_file was) name slots (set slots i new) old new change (ap (λ (slot : Stored). slot.file) is) (λ kept. refl) other ∙ files other;
      room = omega (arith, rooms name, ap kept_room change.before, ap kept_room change.after, larger);
      others = λ other differs. ap kept_room (change.others other differs) ∙ rooms other;
    }

-- the room of a name after a change at its place
pub room_set : (slots : List Stored) (name : List ℕ) (i : ℕ) (old new : Stored) → position (has_name name) slots ≡ Some i → old ≡ get_or slots i old → new ≡ record old { room = new.room } → room_in (set slots i new) name ≡ new.room
room_set slots name i old new place there is = ap kept_room (changes_one slots name i old new place there (ap (λ (slot : Stored). slot.name) is)).after

pub file_at : (slots : List Stored) (name : List ℕ) (i : ℕ) (d : Stored) → position (has_name name) slots ≡ Some i → file_in slots name ≡ (get_or slots i d).file
file_at slots name i d place = ap kept_file (found_at slots name i d place)

pub room_at : (slots : List Stored) (name : List ℕ) (i : ℕ) (d : Stored) → position (has_name name) slots ≡ Some i → room_in slots name ≡ (get_or slots i d).room
room_at slots name i d place = ap kept_room (found_at slots name i d place)

pub room_nowhere : (slots : List Stored) (name : List ℕ) → position (has_name name) slots ≡ None → room_in slots name ≡ 0
room_nowhere slots name place = ap kept_room (found_nowhere slots name place)
