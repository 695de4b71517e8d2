-- Lines without their comments, byte by byte.
use Rattle.std.proofs.Common.{arith, ◌≡◌, ℕ, zero, suc, ◌+◌, ◌<◌, length, get_or, append_assoc, Bool, true, false, List, [], ◌∷◌, ◌++◌, Some, None, refl, sym, ap, ◌∙◌}
use Rattle.std.specs.Prelude.{◌==◌, ◌&&◌, not, filter, flat_map, count_by, drop, if◌then◌else◌, Option, option_map, cond}
use Rattle.std.specs.List.{list_all, slice_split, onto_first, after_first, position_or_len}
use Rattle.std.proofs.lemmas.List.{drop_more}
use Rattle.std.proofs.lemmas.Bool.{ne_eqb}
use Rattle.std.proofs.lemmas.Grind.{common_steps}
use Rattle.std.proofs.lemmas.List.Splits.{slice_split-cons_yes, slice_split-cons_no}
use Rattle.nest_base.specs.Lines.{is_blank}
use Rattle.code_moves.specs.Words.{opens_comment, closes_comment, are_commented, uncommented}
use Rattle.ngc_meaning.specs.Bare.{left_of}

-- what is left of the rest of a line, inside a comment or outside
abbrev pub left_from : Bool → List ℕ → Option (List ℕ)
left_from true [] = None
left_from false [] = Some []
left_from true (b ∷ line) = if opens_comment b then None else left_from (not (closes_comment b)) line
left_from false (b ∷ line) = if opens_comment b then left_from true line else (if closes_comment b then None else (if is_blank b then left_from false line else option_map (λ t. b ∷ t) (left_from false line)))

abbrev closed_once : List ℕ → Bool
closed_once p = count_by closes_comment p == 1

abbrev kept : List ℕ → List ℕ
kept text = filter (λ b. not (is_blank b)) text

abbrev behind : List (List ℕ) → List ℕ
behind parts = flat_map (after_first closes_comment) parts

-- the same by the parts between the opening marks
abbrev by_parts : Bool → List ℕ → List (List ℕ) → Option (List ℕ)
by_parts true p ps = if closed_once p && list_all closed_once ps then Some (kept (after_first closes_comment p ++ behind ps)) else None
by_parts false p ps = if (count_by closes_comment p == 0) && list_all closed_once ps then Some (kept (p ++ behind ps)) else None

record Parted (line : List ℕ) : Type 0 where
  part : List ℕ
  parts : List (List ℕ)
  split : slice_split opens_comment line ≡ part ∷ parts
  inside : left_from true line ≡ by_parts true part parts
  outside : left_from false line ≡ by_parts false part parts

-- the parts where an opening mark comes first
opened : (p : List ℕ) (ps : List (List ℕ)) → (None ≡ by_parts true [] (p ∷ ps)) × (by_parts true p ps ≡ by_parts false [] (p ∷ ps))
opened p ps = (refl, refl)

count_closed : (b : ℕ) (p : List ℕ) → closes_comment b ≡ true → count_by closes_comment (b ∷ p) ≡ suc (count_by closes_comment p)
count_closed b p h = grind (arith, common_steps, h)

count_other : (b : ℕ) (p : List ℕ) → closes_comment b ≡ false → count_by closes_comment (b ∷ p) ≡ count_by closes_comment p
count_other b p h = grind (arith, common_steps, h)

after_closed : (b : ℕ) (p : List ℕ) → closes_comment b ≡ true → after_first closes_comment (b ∷ p) ≡ p
after_closed b p h = rw h refl

after_other : (b : ℕ) (p : List ℕ) → closes_comment b ≡ false → after_first closes_comment (b ∷ p) ≡ after_first closes_comment p
after_other b p h = rw h (ap (λ k. drop k (b ∷ p)) (by (position_or_len closes_comment p)))
  where
    by : (n : ℕ) → 1 + n + 1 ≡ suc (n + 1)
    by n = omega arith

one_more_is_one : (n : ℕ) → (suc n == 1) ≡ (n == 0)
one_more_is_one zero = refl
one_more_is_one (suc n) = grind (arith, common_steps)

one_more_is_none : (n : ℕ) → (suc n == 0) ≡ false
one_more_is_none n = grind (arith, common_steps)

-- where a closing mark comes first
closed : (b : ℕ) (p : List ℕ) (ps : List (List ℕ)) → closes_comment b ≡ true → (by_parts false p ps ≡ by_parts true (b ∷ p) ps) × (None ≡ by_parts false (b ∷ p) ps)
closed b p ps h = rw (count_closed b p h, after_closed b p h) (rw (one_more_is_one (count_by closes_comment p), one_more_is_none (count_by closes_comment p)) (refl, refl))

-- a byte is kept unless it's a blank
put_in_front : (fine blank : Bool) (b : ℕ) (text : List ℕ) →
    (if blank then (if fine then Some text else None) else option_map (λ t. b ∷ t) (if fine then Some text else None)) ≡ (if fine then Some (cond (not blank) (b ∷ text) text) else None)
put_in_front true true b text = refl
put_in_front true false b text = refl
put_in_front false true b text = refl
put_in_front false false b text = refl

-- where another byte comes first
other : (b : ℕ) (p : List ℕ) (ps : List (List ℕ)) → closes_comment b ≡ false →
    (by_parts true p ps ≡ by_parts true (b ∷ p) ps) × ((if is_blank b then by_parts false p ps else option_map (λ t. b ∷ t) (by_parts false p ps)) ≡ by_parts false (b ∷ p) ps)
other b p ps h = rw (count_other b p h, after_other b p h) (refl, put_in_front ((count_by closes_comment p == 0) && list_all closed_once ps) (is_blank b) b (kept (p ++ behind ps)))

-- one byte on
pub left_closed : (b : ℕ) (line : List ℕ) → opens_comment b ≡ false → closes_comment b ≡ true → left_from true (b ∷ line) ≡ left_from false line
left_closed b line e f = rw (e, f) refl

pub left_unopened : (b : ℕ) (line : List ℕ) → opens_comment b ≡ false → closes_comment b ≡ true → left_from false (b ∷ line) ≡ None
left_unopened b line e f = rw (e, f) refl

pub left_inside : (b : ℕ) (line : List ℕ) → opens_comment b ≡ false → closes_comment b ≡ false → left_from true (b ∷ line) ≡ left_from true line
left_inside b line e f = rw (e, f) refl

pub left_outside : (b : ℕ) (line : List ℕ) → opens_comment b ≡ false → closes_comment b ≡ false →
    left_from false (b ∷ line) ≡ (if is_blank b then left_from false line else option_map (λ t. b ∷ t) (left_from false line))
left_outside b line e f = rw (e, f) refl

-- a line by its first byte
parted : (line : List ℕ) → Parted line
parted [] = record { part = []; parts = []; split = refl; inside = refl; outside = refl }
parted (b ∷ line) = by (opens_comment b) (closes_comment b) refl refl (parted line)
  where
    by : (opens closes : Bool) → opens_comment b ≡ opens → closes_comment b ≡ closes → Parted line → Parted (b ∷ line)
    by true closes e f rest = record {
      part = [];
      parts = rest.part ∷ rest.parts;
      split = slice_split-cons_yes opens_comment b line e ∙ ap (λ ps. [] ∷ ps) rest.split;
      inside = rw e refl;
      outside = rw e rest.inside;
    }
    by false true e f rest = record {
      part = b ∷ rest.part;
      parts = rest.parts;
      split = slice_split-cons_no opens_comment b line e ∙ ap (onto_first b) rest.split;
      inside = left_closed b line e f ∙ rest.outside ∙ (closed b rest.part rest.parts f).0;
      outside = left_unopened b line e f ∙ (closed b rest.part rest.parts f).1;
    }
    by false false e f rest = record {
      part = b ∷ rest.part;
      parts = rest.parts;
      split = slice_split-cons_no opens_comment b line e ∙ ap (onto_first b) rest.split;
      inside = left_inside b line e f ∙ rest.inside ∙ (other b rest.part rest.parts f).0;
      outside = left_outside b line e f ∙ (ap (λ o. if is_blank b then o else option_map (λ t. b ∷ t) o) rest.outside ∙ (other b rest.part rest.parts f).1);
    }

-- what is left of a line is what is left of all its bytes, outside of comments at first
pub left_is : (line : List ℕ) → left_from false line ≡ left_of line
left_is line = let p = parted line in p.outside ∙ ap left_of_parts (sym p.split)
  where
    left_of_parts : List (List ℕ) → Option (List ℕ)
    left_of_parts parts = if are_commented parts then Some (kept (uncommented parts)) else None

-- what is kept, before what is left from place i on
abbrev pub left_at : List ℕ → Bool → List ℕ → ℕ → Option (List ℕ)
left_at text inside line i = option_map (λ t. text ++ t) (left_from inside (drop i line))

from_byte : (text : List ℕ) (inside : Bool) (line : List ℕ) (i : ℕ) (rest : Option (List ℕ)) → i < length line →
    left_from inside (get_or line i 0 ∷ drop (i + 1) line) ≡ rest → left_at text inside line i ≡ option_map (λ t. text ++ t) rest
from_byte text inside line i rest h e = ap (λ d. option_map (λ t. text ++ t) (left_from inside d)) (drop_more line i 0 h) ∙ ap (option_map (λ t. text ++ t)) e

pub on_opening : (text : List ℕ) (inside : Bool) (line : List ℕ) (i : ℕ) → inside ≡ false → i < length line → get_or line i 0 ≡ 40 →
    left_at text true line (i + 1) ≡ left_at text inside line i
on_opening text inside line i out h e = sym (from_byte text inside line i (left_from true (drop (i + 1) line)) h (rw (out, e) refl))

pub on_comment : (text : List ℕ) (inside : Bool) (line : List ℕ) (i : ℕ) → inside ≡ true → i < length line → (get_or line i 0 ≡ 40 → ⊥) →
    left_at text (not (get_or line i 0 == 41)) line (i + 1) ≡ left_at text inside line i
on_comment text inside line i within h e =
    sym (from_byte text inside line i (left_from (not (get_or line i 0 == 41)) (drop (i + 1) line)) h (by inside (get_or line i 0) (drop (i + 1) line) within (ne_eqb (get_or line i 0) 40 e)))
  where
    by : (inside : Bool) (b : ℕ) (rest : List ℕ) → inside ≡ true → (b == 40) ≡ false → left_from inside (b ∷ rest) ≡ left_from (not (b == 41)) rest
    by inside b rest within e = rw (within, e) refl

pub on_blank : (text : List ℕ) (inside : Bool) (line : List ℕ) (i : ℕ) → inside ≡ false → i < length line → (get_or line i 0 ≡ 40 → ⊥) → (get_or line i 0 ≡ 41 → ⊥) →
    is_blank (get_or line i 0) ≡ true → left_at text inside line (i + 1) ≡ left_at text inside line i
on_blank text inside line i out h e f g =
    sym (from_byte text inside line i (left_from inside (drop (i + 1) line)) h (by inside (get_or line i 0) (drop (i + 1) line) out (ne_eqb (get_or line i 0) 40 e) (ne_eqb (get_or line i 0) 41 f) g))
  where
    by : (inside : Bool) (b : ℕ) (rest : List ℕ) → inside ≡ false → (b == 40) ≡ false → (b == 41) ≡ false → is_blank b ≡ true → left_from inside (b ∷ rest) ≡ left_from inside rest
    by inside b rest out e f g = rw out (left_outside b rest e f ∙ rw g refl)

pub on_other : (text : List ℕ) (inside : Bool) (line : List ℕ) (i : ℕ) → inside ≡ false → i < length line → (get_or line i 0 ≡ 40 → ⊥) → (get_or line i 0 ≡ 41 → ⊥) →
    is_blank (get_or line i 0) ≡ false → left_at (text ++ get_or line i 0 ∷ []) inside line (i + 1) ≡ left_at text inside line i
on_other text inside line i out h e f g =
    rw out (put (get_or line i 0) (left_from false (drop (i + 1) line))
    ∙ sym (from_byte text false line i (option_map (λ t. get_or line i 0 ∷ t) (left_from false (drop (i + 1) line))) h
    (left_outside (get_or line i 0) (drop (i + 1) line) (ne_eqb (get_or line i 0) 40 e) (ne_eqb (get_or line i 0) 41 f) ∙ rw g refl)))
  where
    put : (b : ℕ) (o : Option (List ℕ)) → option_map (λ t. (text ++ b ∷ []) ++ t) o ≡ option_map (λ t. text ++ t) (option_map (λ t. b ∷ t) o)
    put b None = refl
    put b (Some t) = ap Some (append_assoc text (b ∷ []) t)

-- before the first byte
pub at_first : (text line : List ℕ) → text ≡ [] → left_at text false line 0 ≡ left_of line
at_first text line e = rw e (same (left_from false line) ∙ left_is line)
  where
    same : (o : Option (List ℕ)) → option_map (λ t. [] ++ t) o ≡ o
    same None = refl
    same (Some t) = refl
