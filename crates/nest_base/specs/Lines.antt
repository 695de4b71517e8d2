-- Texts by lines.
use Rattle.std.specs.Prelude.{ℕ, ◌-◌, Bool, ◌||◌, ◌==◌, List, [], ◌∷◌, length, take, drop}
use Rattle.std.specs.List.{slice_split, prefix_len, suffix_len}
use Rattle.std.specs.Str.Lines.{lines, strip_carriage_return}

-- the parts of a text between its bytes LF
abbrev pub parts_of : List ℕ → List (List ℕ)
parts_of bytes = slice_split (λ b. b == 10) bytes

-- the lines of a text: an LF ends each, and one CR directly before it belongs to the end; an unended last line counts where it has a byte
abbrev pub lines_of : List ℕ → List (List ℕ)
lines_of bytes = lines bytes

-- of a text in parts, the lines that an LF ends
abbrev pub ended_of_parts : List (List ℕ) → List (List ℕ)
ended_of_parts [] = []
ended_of_parts (part ∷ []) = []
ended_of_parts (part ∷ next ∷ more) = strip_carriage_return part ∷ ended_of_parts (next ∷ more)

-- of a text in parts, the bytes behind the last LF
abbrev pub last_part : List (List ℕ) → List ℕ
last_part [] = []
last_part (part ∷ []) = part
last_part (part ∷ next ∷ more) = last_part (next ∷ more)

-- the lines that an LF ends, however the text goes on
abbrev pub ended_lines : List ℕ → List (List ℕ)
ended_lines bytes = ended_of_parts (parts_of bytes)

-- the bytes of the line that no LF has ended yet
abbrev pub unended : List ℕ → List ℕ
unended bytes = last_part (parts_of bytes)

-- a blank or a tab
abbrev pub is_blank : ℕ → Bool
is_blank b = (b == 32) || (b == 9)

-- a text without blanks and tabs at its beginning
abbrev pub without_blanks_before : List ℕ → List ℕ
without_blanks_before text = drop (prefix_len is_blank text) text

-- a text without blanks and tabs at both ends
abbrev pub trimmed : List ℕ → List ℕ
trimmed text = let rest = without_blanks_before text in take (length rest - suffix_len is_blank rest) rest
