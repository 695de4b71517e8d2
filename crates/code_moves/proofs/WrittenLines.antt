-- The lines of a text that is written line by line.
use Rattle.std.proofs.Common.{arith, ◌≡◌, ℕ, ◌-◌, false, List, [], ◌∷◌, ◌++◌, length, refl, ap, ◌∙◌}
use Rattle.std.specs.Prelude.{◌==◌, flat_map}
use Rattle.std.specs.List.{slice_split, AllByRecursion}
use Rattle.std.specs.Str.Lines.{lines_of_parts, strip_carriage_return}
use Rattle.std.proofs.lemmas.List.{append_assoc}
use Rattle.std.proofs.lemmas.List.Elements.{All-from_recursion}
use Rattle.std.proofs.lemmas.List.Splits.{slice_split_at}
use Rattle.nest_base.specs.Lines.{lines_of}
use Rattle.micron_decimals.proofs.Bytes.{NonePass}

-- neither LF nor CR stands in the line
pub record IsOneLine (line : List ℕ) : Type 0 where
  pub no_lf : NonePass (λ b. b == 10) line
  pub no_cr : NonePass (λ b. b == 13) line

-- each line, ended by LF
abbrev pub written : List (List ℕ) → List ℕ
written lines = flat_map (λ (line : List ℕ). line ++ 10 ∷ []) lines

kept_whole : (line : List ℕ) → NonePass (λ b. b == 13) line → strip_carriage_return line ≡ line
kept_whole [] h = refl
kept_whole (b ∷ line) h = rw (All-from_recursion (λ x. (x == 13) ≡ false) (b ∷ line) h (length (b ∷ line) - 1) 0 (omega arith)) refl

parts_written : (lines : List (List ℕ)) → AllByRecursion IsOneLine lines → slice_split (λ b. b == 10) (written lines) ≡ lines ++ [] ∷ []
parts_written [] h = refl
parts_written (line ∷ lines) h =
    ap (λ bytes. slice_split (λ b. b == 10) bytes) (append_assoc line (10 ∷ []) (written lines))
    ∙ slice_split_at (λ b. b == 10) line 10 (written lines) (All-from_recursion (λ b. (b == 10) ≡ false) line h.0.no_lf) refl ∙ ap (λ r. line ∷ r) (parts_written lines h.1)

lines_kept : (lines : List (List ℕ)) → AllByRecursion IsOneLine lines → lines_of_parts (lines ++ [] ∷ []) ≡ lines
lines_kept [] h = refl
lines_kept (line ∷ []) h = ap (λ r. r ∷ []) (kept_whole line h.0.no_cr)
lines_kept (line ∷ next ∷ lines) h = ap (λ r. r ∷ lines_of_parts (next ∷ lines ++ [] ∷ [])) (kept_whole line h.0.no_cr) ∙ ap (λ r. line ∷ r) (lines_kept (next ∷ lines) h.1)

-- what is written line by line has these lines
pub lines_written : (lines : List (List ℕ)) → AllByRecursion IsOneLine lines → lines_of (written lines) ≡ lines
lines_written lines h = ap lines_of_parts (parts_written lines h) ∙ lines_kept lines h
