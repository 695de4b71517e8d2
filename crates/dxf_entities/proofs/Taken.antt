-- The entity so far, with one pair more.
use Rattle.std.proofs.Common.{◌≡◌, Bool, true, false, cond, List, pos, ℕ, Option, Some, None, refl, sym, ap, subst, ◌∙◌}
use Rattle.std.specs.Prelude.{option_map, option_and_then, is_some, codes}
use Rattle.std.specs.List.{All}
use Rattle.std.specs.Option.{option_or}
use Rattle.std.specs.Ordering.{int_eq}
use Rattle.std.proofs.lemmas.Bool.{false≢true}
use Rattle.std.proofs.lemmas.List.Elements.{All-weaker}
use Rattle.dxf_groups.specs.Pairs.{Pair, has_code, is_pair}
use Rattle.dxf_entities.specs.declared.group.Group.{Group}
use Rattle.dxf_entities.specs.declared.group.Group.TheVariants.{Content}
use Rattle.dxf_entities.specs.declared.fault.Fault.{Fault}
use Rattle.dxf_entities.specs.Entities.{Entity, with_pair, shape_of}
use Rattle.dxf_entities.specs.Groups.{code, use_of, read_as, Value, value, groups_used, group_among}
use Rattle.dxf_entities.specs.Refusals.{value_fault, pair_fault, values_fault, space_at}
use Rattle.dxf_entities.specs.EntityBuilder.{EntitySoFar, value_read, with_read, with_new, with_group, unless_faulty, noted, taken, BuilderAt}
use Rattle.dxf_entities.proofs.Pairs.{has_come, first_counted_more, first_found_more, first_pair_more, come_is_found}
use Rattle.dxf_entities.proofs.Groups.{code_is, each_is_found, found_has_code, found_holds, new_is_kept, other_is_kept, fault_of_new, same_values}

-- m differs from h in what is read of groups alone
abbrev Reads : EntitySoFar → EntitySoFar → Type 0
Reads h m = m ≡ record h { fault = m.fault; values = m.values; text = m.text }

reads_value : (o : Option Fault) (g : Group) (text : List ℕ) (h : EntitySoFar) → Reads h (with_read o g text h)
reads_value (Some fault) g text h = refl
reads_value None g text h = refl

reads_new : (g : Group) (p : Pair) (h : EntitySoFar) → Reads h (with_new g p h)
reads_new Content p h = refl
reads_new g p h = reads_value (value_fault (use_of g) p.value p.line) g p.value h

reads_if : (b : Bool) (h m : EntitySoFar) → Reads h m → Reads h (cond b h m)
reads_if true h m r = refl
reads_if false h m r = r

reads_group : (o : Option Group) (p : Pair) (h : EntitySoFar) → Reads h (with_group o p h)
reads_group None p h = refl
reads_group (Some g) p h = reads_if (is_some (value_read h g)) h (with_new g p h) (reads_new g p h)

reads_alone : (o : Option Fault) (p : Pair) (h : EntitySoFar) → Reads h (unless_faulty o p h)
reads_alone (Some fault) p h = refl
reads_alone None p h = reads_group (group_among (groups_used h.shape) p.code) p h

some_mapped : {X Y : Type 0} (f : X → Y) (o : Option X) → is_some (option_map f o) ≡ is_some o
some_mapped f None = refl
some_mapped f (Some x) = refl

-- a code that is used has come where something is kept of it
come_is_kept : (p : Pair) (h : EntitySoFar) (e : Entity) (g : Group) → BuilderAt h e → h.fault ≡ None → group_among (groups_used h.shape) p.code ≡ Some g →
    has_come p.code e.rest ≡ is_some (value_read h g)
come_is_kept p h e g at none found =
    ap (λ n. has_come n e.rest) (code_is p.code (code g) (found_has_code (groups_used h.shape) p.code g found))
    ∙ come_is_found e.rest (code g)
    ∙ sym (some_mapped (λ (q : Pair). read_as (use_of g) q.value) _)
    ∙ ap is_some (sym (found_holds (λ f. value_read h f ≡ value e f) (groups_used h.shape) p.code g (at.values none) found))

fault_if : (b : Bool) (h m : EntitySoFar) (o : Option Fault) → h.fault ≡ None → m.fault ≡ o → (cond b h m).fault ≡ cond b None o
fault_if true h m o p q = p
fault_if false h m o p q = q

none_in_any_case : (b : Bool) (o : Option Fault) → o ≡ None → cond b None o ≡ None
none_in_any_case true o e = refl
none_in_any_case false o e = e

-- the first value that can't be read
fault_more : (p : Pair) (h : EntitySoFar) (e : Entity) → BuilderAt h e → (unless_faulty h.fault p h).fault ≡ values_fault (with_pair p e)
fault_more p h e at = by_fault h.fault refl
  where
    why : Group → Option Fault
    why g = value_fault (use_of g) p.value p.line

    by_group : (o : Option Group) → group_among (groups_used h.shape) p.code ≡ o → h.fault ≡ None →
        (with_group o p h).fault ≡ cond (has_come p.code e.rest) None (option_and_then why o)
    by_group None found none = none ∙ sym (none_in_any_case (has_come p.code e.rest) None refl)
    by_group (Some g) found none =
        fault_if (is_some (value_read h g)) h (with_new g p h) (why g) none (fault_of_new g p h none)
        ∙ ap (λ b. cond b None (why g)) (sym (come_is_kept p h e g at none found))

    by_fault : (o : Option Fault) → h.fault ≡ o → (unless_faulty o p h).fault ≡ values_fault (with_pair p e)
    by_fault (Some fault) is =
        is ∙ sym (first_counted_more (pair_fault (shape_of e)) e.rest p ∙ ap (λ o. option_or o (cond (has_come p.code e.rest) None (pair_fault (shape_of e) p))) (sym at.fault ∙ is))
    by_fault None is =
        by_group (group_among (groups_used h.shape) p.code) refl is
        ∙ ap (λ s. cond (has_come p.code e.rest) None (pair_fault s p)) at.shape
        ∙ sym (first_counted_more (pair_fault (shape_of e)) e.rest p ∙ ap (λ o. option_or o (cond (has_come p.code e.rest) None (pair_fault (shape_of e) p))) (sym at.fault ∙ is))

or_none : {X : Type 0} (o : Option X) → option_or o None ≡ o
or_none None = refl
or_none (Some x) = refl

kept_if : (b : Bool) (h m : EntitySoFar) (g : Group) → value_read m g ≡ value_read h g → value_read (cond b h m) g ≡ value_read h g
kept_if true h m g e = refl
kept_if false h m g e = e

-- a group of this code
kept_here : (p : Pair) (h : EntitySoFar) (g : Group) (o : Option Value) → h.fault ≡ None → value_read h g ≡ o → (cond (is_some o) h (with_new g p h)).fault ≡ None →
    value_read (cond (is_some o) h (with_new g p h)) g ≡ option_or o (Some (read_as (use_of g) p.value))
kept_here p h g (Some v) none is fault = is
kept_here p h g None none is fault = new_is_kept g p h (sym (fault_of_new g p h none) ∙ fault)

-- a group of another code
kept_there : (p : Pair) (h : EntitySoFar) (g : Group) (groups : List Group) (o : Option Group) → int_eq p.code (pos (code g)) ≡ false → group_among groups p.code ≡ o →
    value_read (with_group o p h) g ≡ value_read h g
kept_there p h g groups None other is = refl
kept_there p h g groups (Some f) other is =
    kept_if (is_some (value_read h f)) h (with_new f p h) g
    (other_is_kept f g p h (λ same. false≢true (sym other ∙ ap (λ (x : Group). int_eq p.code (pos (code x))) (sym same) ∙ found_has_code groups p.code f is)))

-- what is kept of one group that is used
kept_more : (p : Pair) (h : EntitySoFar) (e : Entity) (groups : List Group) (g : Group) → h.fault ≡ None → (with_group (group_among groups p.code) p h).fault ≡ None →
    value_read h g ≡ value e g → (int_eq p.code (pos (code g)) ≡ true → group_among groups p.code ≡ Some g) →
    value_read (with_group (group_among groups p.code) p h) g ≡ value (with_pair p e) g
kept_more p h e groups g none fault is found =
    by_code (int_eq p.code (pos (code g))) refl
    ∙ ap (λ o. option_or o (cond (has_code (code g) p) (Some (read_as (use_of g) p.value)) None)) is
    ∙ sym (first_found_more (λ (q : Pair). read_as (use_of g) q.value) (has_code (code g)) e.rest p)
  where
    by_code : (b : Bool) → int_eq p.code (pos (code g)) ≡ b →
        value_read (with_group (group_among groups p.code) p h) g ≡ option_or (value_read h g) (cond b (Some (read_as (use_of g) p.value)) None)
    by_code true c =
        ap (λ o. value_read (with_group o p h) g) (found c)
        ∙ kept_here p h g (value_read h g) none refl (ap (λ o. (with_group o p h).fault) (sym (found c)) ∙ fault)
    by_code false c = kept_there p h g groups (group_among groups p.code) c refl ∙ sym (or_none (value_read h g))

-- what is kept of all groups that are used
values_more : (p : Pair) (h : EntitySoFar) (e : Entity) → BuilderAt h e → (unless_faulty h.fault p h).fault ≡ None →
    All (λ g. value_read (unless_faulty h.fault p h) g ≡ value (with_pair p e) g) (groups_used h.shape)
values_more p h e at none = by_fault h.fault refl none
  where
    by_fault : (o : Option Fault) → h.fault ≡ o → (unless_faulty o p h).fault ≡ None →
        All (λ g. value_read (unless_faulty o p h) g ≡ value (with_pair p e) g) (groups_used h.shape)
    by_fault (Some fault) is none = absurd (cc)
    by_fault None is none = λ k d within.
        kept_more p h e (groups_used h.shape) _ is none (at.values is k d within) (each_is_found (groups_used h.shape) p.code k d within)

-- one pair more
pub taken_is_built : (p : Pair) (h : EntitySoFar) (e : Entity) → BuilderAt h e → BuilderAt (taken p h) (with_pair p e)
taken_is_built p h e at =
    let m = unless_faulty h.fault p h in
    let r = reads_alone h.fault p h in
    record {
      shape = ap (λ (x : EntitySoFar). x.shape) r ∙ at.shape;
      label = ap (λ (x : EntitySoFar). x.label) r ∙ at.label;
      line = ap (λ (x : EntitySoFar). x.line) r ∙ at.line;
      is_section = ap (λ (x : EntitySoFar). x.is_section) r ∙ at.is_section;
      closes = ap (λ (x : EntitySoFar). x.closes) r ∙ at.closes;
      opening = ap (λ (x : EntitySoFar). option_or x.opening (Some (is_pair 2 (codes "ENTITIES") p))) r
          ∙ ap (λ o. option_or o (Some (is_pair 2 (codes "ENTITIES") p))) at.opening ∙ sym (first_pair_more (is_pair 2 (codes "ENTITIES")) e.rest p);
      space = ap (λ (x : EntitySoFar). option_or x.space (cond (has_code 67 p) (Some (space_at p)) None)) r
          ∙ ap (λ o. option_or o (cond (has_code 67 p) (Some (space_at p)) None)) at.space ∙ sym (first_found_more space_at (has_code 67) e.rest p);
      fault = fault_more p h e at;
      values = λ none. subst (λ s. All (λ g. value_read (noted p m) g ≡ value (with_pair p e) g) (groups_used s)) (sym (ap (λ (x : EntitySoFar). x.shape) r))
          (All-weaker (λ g. value_read m g ≡ value (with_pair p e) g) (λ g. value_read (noted p m) g ≡ value (with_pair p e) g)
          (λ g is. same_values g m (noted p m) refl refl ∙ is) (groups_used h.shape) (values_more p h e at none));
    }
