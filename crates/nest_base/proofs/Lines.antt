-- Lines of a text: what one more byte changes, and what its end does.
use Rattle.std.proofs.Common.{arith, ◌≡◌, ℕ, zero, suc, ◌+◌, ◌<◌, ◌≤◌, Bool, true, false, cond, List, [], ◌∷◌, ◌++◌, length, refl, sym, ap, ◌∙◌}
use Rattle.std.specs.Prelude.{◌==◌, replicate}
use Rattle.std.specs.List.{onto_first}
use Rattle.std.specs.Str.Lines.{lines_of_parts, strip_carriage_return}
use Rattle.std.proofs.lemmas.Grind.{common_steps}
use Rattle.std.proofs.lemmas.List.{append-nil, append_assoc}
use Rattle.std.proofs.lemmas.List.Splits.{length-slice_split}
use Rattle.nest_base.specs.Lines.{lines_of, ended_lines, unended, parts_of, ended_of_parts, last_part}

-- parts with one more byte in the last of them
put_last : ℕ → List (List ℕ) → List (List ℕ)
put_last c [] = (c ∷ []) ∷ []
put_last c (part ∷ []) = (part ++ c ∷ []) ∷ []
put_last c (part ∷ next ∷ more) = part ∷ put_last c (next ∷ more)

onto_first-put_last : (x c : ℕ) (parts : List (List ℕ)) → onto_first x (put_last c parts) ≡ put_last c (onto_first x parts)
unfolding put_last
onto_first-put_last x c [] = refl
onto_first-put_last x c (part ∷ []) = refl
onto_first-put_last x c (part ∷ next ∷ more) = refl

put_last-cons : (c : ℕ) (parts : List (List ℕ)) → 0 < length parts → put_last c ([] ∷ parts) ≡ [] ∷ put_last c parts
unfolding put_last
put_last-cons c [] some = absurd (omega (arith, some))
put_last-cons c (part ∷ more) some = refl

onto_first-push : (x : ℕ) (parts : List (List ℕ)) → 0 < length parts → onto_first x (parts ++ [] ∷ []) ≡ onto_first x parts ++ [] ∷ []
onto_first-push x [] some = absurd (omega (arith, some))
onto_first-push x (part ∷ more) some = refl

some_parts : (b : List ℕ) → 0 < length (parts_of b)
some_parts b = omega (arith, length-slice_split (λ x. x == 10) b)

-- the parts of a text behind its first byte, with one byte more, where this byte ends no line
step_other : (t : Bool) (x c : ℕ) (parts longer : List (List ℕ)) → 0 < length parts → longer ≡ put_last c parts →
    cond t ([] ∷ longer) (onto_first x longer) ≡ put_last c (cond t ([] ∷ parts) (onto_first x parts))
step_other true x c parts longer some h = ap (λ r. [] ∷ r) h ∙ sym (put_last-cons c parts some)
step_other false x c parts longer some h = ap (λ r. onto_first x r) h ∙ onto_first-put_last x c parts

-- the same, where it ends a line
step_lf : (t : Bool) (x : ℕ) (parts longer : List (List ℕ)) → 0 < length parts → longer ≡ parts ++ [] ∷ [] →
    cond t ([] ∷ longer) (onto_first x longer) ≡ cond t ([] ∷ parts) (onto_first x parts) ++ [] ∷ []
step_lf true x parts longer some h = ap (λ r. [] ∷ r) h
step_lf false x parts longer some h = ap (λ r. onto_first x r) h ∙ onto_first-push x parts some

parts_of-other : (b : List ℕ) (c : ℕ) → (c == 10) ≡ false → parts_of (b ++ c ∷ []) ≡ put_last c (parts_of b)
unfolding put_last
parts_of-other [] c h = rw h refl
parts_of-other (x ∷ b) c h = step_other (x == 10) x c (parts_of b) (parts_of (b ++ c ∷ [])) (some_parts b) (parts_of-other b c h)

parts_of-lf : (b : List ℕ) → parts_of (b ++ 10 ∷ []) ≡ parts_of b ++ [] ∷ []
parts_of-lf [] = refl
parts_of-lf (x ∷ b) = step_lf (x == 10) x (parts_of b) (parts_of (b ++ 10 ∷ [])) (some_parts b) (parts_of-lf b)

last_part-put_last : (c : ℕ) (parts : List (List ℕ)) → last_part (put_last c parts) ≡ last_part parts ++ c ∷ []
unfolding put_last
last_part-put_last c [] = refl
last_part-put_last c (part ∷ []) = refl
last_part-put_last c (part ∷ next ∷ []) = refl
last_part-put_last c (part ∷ next ∷ third ∷ more) = last_part-put_last c (next ∷ third ∷ more)

ended_of_parts-put_last : (c : ℕ) (parts : List (List ℕ)) → ended_of_parts (put_last c parts) ≡ ended_of_parts parts
unfolding put_last
ended_of_parts-put_last c [] = refl
ended_of_parts-put_last c (part ∷ []) = refl
ended_of_parts-put_last c (part ∷ next ∷ []) = refl
ended_of_parts-put_last c (part ∷ next ∷ third ∷ more) = ap (λ r. strip_carriage_return part ∷ r) (ended_of_parts-put_last c (next ∷ third ∷ more))

last_part-push : (parts : List (List ℕ)) → last_part (parts ++ [] ∷ []) ≡ []
last_part-push [] = refl
last_part-push (part ∷ []) = refl
last_part-push (part ∷ next ∷ more) = last_part-push (next ∷ more)

ended_of_parts-push : (parts : List (List ℕ)) → 0 < length parts → ended_of_parts (parts ++ [] ∷ []) ≡ ended_of_parts parts ++ strip_carriage_return (last_part parts) ∷ []
ended_of_parts-push [] some = absurd (omega (arith, some))
ended_of_parts-push (part ∷ []) some = refl
ended_of_parts-push (part ∷ next ∷ more) some = ap (λ r. strip_carriage_return part ∷ r) (ended_of_parts-push (next ∷ more) (omega arith))

-- an LF ends the unended line
pub ended_lines-lf : (b : List ℕ) → ended_lines (b ++ 10 ∷ []) ≡ ended_lines b ++ strip_carriage_return (unended b) ∷ []
ended_lines-lf b = ap ended_of_parts (parts_of-lf b) ∙ ended_of_parts-push (parts_of b) (some_parts b)

pub unended-lf : (b : List ℕ) → unended (b ++ 10 ∷ []) ≡ []
unended-lf b = ap last_part (parts_of-lf b) ∙ last_part-push (parts_of b)

-- any other byte stands in it
pub ended_lines-other : (b : List ℕ) (c : ℕ) → (c == 10) ≡ false → ended_lines (b ++ c ∷ []) ≡ ended_lines b
ended_lines-other b c h = ap ended_of_parts (parts_of-other b c h) ∙ ended_of_parts-put_last c (parts_of b)

pub unended-other : (b : List ℕ) (c : ℕ) → (c == 10) ≡ false → unended (b ++ c ∷ []) ≡ unended b ++ c ∷ []
unended-other b c h = ap last_part (parts_of-other b c h) ∙ last_part-put_last c (parts_of b)

-- so do any number of such bytes
pub ended_lines-run : (b : List ℕ) (n c : ℕ) → (c == 10) ≡ false → ended_lines (b ++ replicate n c) ≡ ended_lines b
ended_lines-run b zero c h = ap ended_lines (append-nil b)
ended_lines-run b (suc n) c h = ap ended_lines (sym (append_assoc b (c ∷ []) (replicate n c))) ∙ ended_lines-run (b ++ c ∷ []) n c h ∙ ended_lines-other b c h

pub unended-run : (b : List ℕ) (n c : ℕ) → (c == 10) ≡ false → unended (b ++ replicate n c) ≡ unended b ++ replicate n c
unended-run b zero c h = ap unended (append-nil b) ∙ sym (append-nil (unended b))
unended-run b (suc n) c h =
    ap unended (sym (append_assoc b (c ∷ []) (replicate n c))) ∙ unended-run (b ++ c ∷ []) n c h
    ∙ ap (λ u. u ++ replicate n c) (unended-other b c h) ∙ append_assoc (unended b) (c ∷ []) (replicate n c)

bare_parts : (parts : List (List ℕ)) → last_part parts ≡ [] → lines_of_parts parts ≡ ended_of_parts parts
bare_parts [] h = refl
bare_parts (part ∷ []) h = rw h refl
bare_parts (part ∷ next ∷ more) h = ap (λ r. strip_carriage_return part ∷ r) (bare_parts (next ∷ more) h)

parts_with_last : (parts : List (List ℕ)) → 0 < length (last_part parts) → lines_of_parts parts ≡ ended_of_parts parts ++ last_part parts ∷ []
parts_with_last [] some = absurd (omega (arith, some))
parts_with_last (part ∷ []) some = grind (arith, common_steps)
parts_with_last (part ∷ next ∷ more) some = ap (λ r. strip_carriage_return part ∷ r) (parts_with_last (next ∷ more) some)

-- the lines of a text are the ended ones, and then the unended one where it has a byte
pub lines_of-bare : (b : List ℕ) → unended b ≡ [] → lines_of b ≡ ended_lines b
lines_of-bare b h = bare_parts (parts_of b) h

pub lines_of-unended : (b : List ℕ) → 0 < length (unended b) → lines_of b ≡ ended_lines b ++ unended b ∷ []
lines_of-unended b some = parts_with_last (parts_of b) some

-- without its end a line is as long, or one byte shorter
pub length-strip : (line : List ℕ) → (length (strip_carriage_return line) ≤ length line) × (length line ≤ length (strip_carriage_return line) + 1)
length-strip line = grind (arith, common_steps)
