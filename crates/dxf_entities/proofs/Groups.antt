-- Groups among those that are used, and what is kept of them.
use Rattle.std.proofs.Common.{◌≡◌, Bool, true, false, cond, List, [], ◌∷◌, ℤ, pos, ℕ, Option, Some, None, refl, sym, ap, subst, ◌∙◌}
use Rattle.std.specs.Prelude.{◌==◌, if◌then◌else◌, option_map}
use Rattle.std.specs.List.{All}
use Rattle.std.specs.Ordering.{int_eq}
use Rattle.std.proofs.lemmas.Bool.Decides.{Decides-int_eq}
use Rattle.std.proofs.lemmas.List.Elements.{All-nil, All-cons, All-head, All-tail, All-weaker}
use Rattle.std.proofs.lemmas.Option.{same_Some}
use Rattle.dxf_groups.specs.Pairs.{Pair}
use Rattle.dxf_entities.specs.declared.group.Group.{Group}
use Rattle.dxf_entities.specs.declared.group.Group.TheVariants.{StartX, StartY, EndX, EndY, Flags, Bulge, ExtrusionX, ExtrusionY, ExtrusionZ, Content}
use Rattle.dxf_entities.specs.declared.fault.Fault.{Fault}
use Rattle.dxf_entities.specs.declared.values.Values.{Values}
use Rattle.dxf_entities.specs.Groups.{code, use_of, read_as, Number, Test, Text, group_among}
use Rattle.dxf_entities.specs.Refusals.{unless_near, unless_read, value_fault}
use Rattle.dxf_entities.specs.EntityBuilder.{EntitySoFar, a_number, a_test, value_in, value_read, with_number, with_read, with_new}

-- the group with a code
group_with : ℕ → Option Group
group_with n =
    if n == 10 then Some StartX else (if n == 20 then Some StartY else (if n == 11 then Some EndX else (if n == 21 then Some EndY else
    (if n == 70 then Some Flags else (if n == 42 then Some Bulge else (if n == 210 then Some ExtrusionX else
    (if n == 220 then Some ExtrusionY else (if n == 230 then Some ExtrusionZ else Some Content))))))))

with_its_code : (g : Group) → group_with (code g) ≡ Some g
unfolding group_with
with_its_code StartX = refl
with_its_code StartY = refl
with_its_code EndX = refl
with_its_code EndY = refl
with_its_code Flags = refl
with_its_code Bulge = refl
with_its_code ExtrusionX = refl
with_its_code ExtrusionY = refl
with_its_code ExtrusionZ = refl
with_its_code Content = refl

pub same_code : (g f : Group) → code g ≡ code f → g ≡ f
same_code g f e = same_Some g f (sym (with_its_code g) ∙ ap group_with e ∙ with_its_code f)

-- a code, as the test sees it
pub code_is : (n : ℤ) (m : ℕ) → int_eq n (pos m) ≡ true → n ≡ pos m
code_is n m e = (Decides-int_eq n (pos m)).0 e

one_code : (n : ℤ) (g f : Group) → int_eq n (pos (code g)) ≡ true → int_eq n (pos (code f)) ≡ true → g ≡ f
one_code n g f p q = same_code g f (same_pos (code g) (code f) (sym (code_is n (code g) p) ∙ code_is n (code f) q))
  where
    same_pos : (a b : ℕ) → pos a ≡ pos b → a ≡ b
    same_pos a b e = cc

found_behind : (n : ℤ) (g f : Group) (groups : List Group) → (int_eq n (pos (code f)) ≡ true → group_among groups n ≡ Some f) →
    int_eq n (pos (code f)) ≡ true → group_among (g ∷ groups) n ≡ Some f
found_behind n g f groups h e = by_test (int_eq n (pos (code g))) refl
  where
    by_test : (b : Bool) → int_eq n (pos (code g)) ≡ b → cond b (Some g) (group_among groups n) ≡ Some f
    by_test true p = ap (λ (x : Group). Some x) (one_code n g f p e)
    by_test false p = h e

-- each of some groups is found by its code
pub each_is_found : (groups : List Group) (n : ℤ) → All (λ g. int_eq n (pos (code g)) ≡ true → group_among groups n ≡ Some g) groups
each_is_found [] n = All-nil (λ g. int_eq n (pos (code g)) ≡ true → group_among [] n ≡ Some g)
each_is_found (g ∷ groups) n =
    All-cons (λ f. int_eq n (pos (code f)) ≡ true → group_among (g ∷ groups) n ≡ Some f) g groups
    (λ e. ap (λ b. cond b (Some g) (group_among groups n)) e)
    (All-weaker (λ f. int_eq n (pos (code f)) ≡ true → group_among groups n ≡ Some f) (λ f. int_eq n (pos (code f)) ≡ true → group_among (g ∷ groups) n ≡ Some f)
    (λ f h. found_behind n g f groups h) groups (each_is_found groups n))

-- a group that is found has the code
pub found_has_code : (groups : List Group) (n : ℤ) (f : Group) → group_among groups n ≡ Some f → int_eq n (pos (code f)) ≡ true
found_has_code [] n f e = absurd (cc)
found_has_code (g ∷ groups) n f e = by_test (int_eq n (pos (code g))) refl (found_has_code groups n f) e
  where
    by_test : (b : Bool) → int_eq n (pos (code g)) ≡ b → (group_among groups n ≡ Some f → int_eq n (pos (code f)) ≡ true) →
        cond b (Some g) (group_among groups n) ≡ Some f → int_eq n (pos (code f)) ≡ true
    by_test true p h q = ap (λ (x : Group). int_eq n (pos (code x))) (sym (same_Some g f q)) ∙ p
    by_test false p h q = h q

-- what holds of each of some groups holds of the one that is found
pub found_holds : (P : Group → Type 0) (groups : List Group) (n : ℤ) (f : Group) → All P groups → group_among groups n ≡ Some f → P f
found_holds P [] n f all e = absurd (cc)
found_holds P (g ∷ groups) n f all e =
    by_test (int_eq n (pos (code g))) (All-head P g groups all) (found_holds P groups n f (All-tail P g groups all)) e
  where
    by_test : (b : Bool) → P g → (group_among groups n ≡ Some f → P f) → cond b (Some g) (group_among groups n) ≡ Some f → P f
    by_test true here h q = subst P (same_Some g f q) here
    by_test false here h q = h q

near_kept : (o : Option ℤ) (line : ℕ) → unless_near o line ≡ None → a_number o ≡ Some (Number o)
near_kept None line e = absurd (cc)
near_kept (Some n) line e = refl

number_kept : (o : Option ℤ) (line : ℕ) → unless_read o line ≡ None → a_number o ≡ Some (Number o)
number_kept None line e = absurd (cc)
number_kept (Some n) line e = refl

test_kept : (o : Option Bool) (line : ℕ) → unless_read o line ≡ None → a_test o ≡ Some (Test o)
test_kept None line e = absurd (cc)
test_kept (Some b) line e = refl

with_read_none : (f : Option Fault) (g : Group) (text : List ℕ) (h : EntitySoFar) → f ≡ None → with_read f g text h ≡ record h { values = with_number g text h.values }
with_read_none None g text h e = refl
with_read_none (Some fault) g text h e = absurd (cc)

-- a new group whose value can be read is kept
pub new_is_kept : (g : Group) (p : Pair) (h : EntitySoFar) → value_fault (use_of g) p.value p.line ≡ None → value_read (with_new g p h) g ≡ Some (read_as (use_of g) p.value)
new_is_kept StartX p h e = ap (λ m. value_read m StartX) (with_read_none _ StartX p.value h e) ∙ near_kept _ p.line e
new_is_kept StartY p h e = ap (λ m. value_read m StartY) (with_read_none _ StartY p.value h e) ∙ near_kept _ p.line e
new_is_kept EndX p h e = ap (λ m. value_read m EndX) (with_read_none _ EndX p.value h e) ∙ near_kept _ p.line e
new_is_kept EndY p h e = ap (λ m. value_read m EndY) (with_read_none _ EndY p.value h e) ∙ near_kept _ p.line e
new_is_kept Flags p h e = ap (λ m. value_read m Flags) (with_read_none _ Flags p.value h e) ∙ number_kept _ p.line e
new_is_kept Bulge p h e = ap (λ m. value_read m Bulge) (with_read_none _ Bulge p.value h e) ∙ test_kept _ p.line e
new_is_kept ExtrusionX p h e = ap (λ m. value_read m ExtrusionX) (with_read_none _ ExtrusionX p.value h e) ∙ test_kept _ p.line e
new_is_kept ExtrusionY p h e = ap (λ m. value_read m ExtrusionY) (with_read_none _ ExtrusionY p.value h e) ∙ test_kept _ p.line e
new_is_kept ExtrusionZ p h e = ap (λ m. value_read m ExtrusionZ) (with_read_none _ ExtrusionZ p.value h e) ∙ test_kept _ p.line e
new_is_kept Content p h e = refl

-- another value stays
other_value : (f g : Group) (text : List ℕ) (v : Values) → (f ≡ g → ⊥) → value_in (with_number f text v) g ≡ value_in v g
other_value StartX StartX text v other = absurd (other refl)
other_value StartY StartY text v other = absurd (other refl)
other_value EndX EndX text v other = absurd (other refl)
other_value EndY EndY text v other = absurd (other refl)
other_value Flags Flags text v other = absurd (other refl)
other_value Bulge Bulge text v other = absurd (other refl)
other_value ExtrusionX ExtrusionX text v other = absurd (other refl)
other_value ExtrusionY ExtrusionY text v other = absurd (other refl)
other_value ExtrusionZ ExtrusionZ text v other = absurd (other refl)
other_value f g text v other = refl

pub same_values : (g : Group) (h m : EntitySoFar) → value_in m.values g ≡ value_in h.values g → m.text ≡ h.text → value_read m g ≡ value_read h g
same_values Content h m e t = ap (λ o. option_map Text o) t
same_values g h m e t = e

other_read : (o : Option Fault) (f g : Group) (text : List ℕ) (h : EntitySoFar) → (f ≡ g → ⊥) → value_read (with_read o f text h) g ≡ value_read h g
other_read (Some fault) f g text h other = same_values g h (record h { fault = Some fault }) refl refl
other_read None f g text h other = same_values g h (record h { values = with_number f text h.values }) (other_value f g text h.values other) refl

other_text : (g : Group) (h : EntitySoFar) (text : Option (List ℕ)) → (Content ≡ g → ⊥) → value_read (record h { text = text }) g ≡ value_read h g
other_text Content h text other = absurd (other refl)
other_text g h text other = refl

-- what is kept of another group stays
pub other_is_kept : (f g : Group) (p : Pair) (h : EntitySoFar) → (f ≡ g → ⊥) → value_read (with_new f p h) g ≡ value_read h g
other_is_kept Content g p h other = other_text g h (Some p.value) other
other_is_kept f g p h other = other_read (value_fault (use_of f) p.value p.line) f g p.value h other

fault_of_read : (o : Option Fault) (g : Group) (text : List ℕ) (h : EntitySoFar) → h.fault ≡ None → (with_read o g text h).fault ≡ o
fault_of_read (Some fault) g text h e = refl
fault_of_read None g text h e = e

-- a new group may be the first that can't be read
pub fault_of_new : (g : Group) (p : Pair) (h : EntitySoFar) → h.fault ≡ None → (with_new g p h).fault ≡ value_fault (use_of g) p.value p.line
fault_of_new Content p h e = e
fault_of_new g p h e = fault_of_read (value_fault (use_of g) p.value p.line) g p.value h e
