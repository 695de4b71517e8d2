-- A line of code as words: a letter and a number each.
use Rattle.std.specs.Prelude.{ℕ, Bool, true, false, ◌&&◌, ◌||◌, not, ◌==◌, nat_eq, nat_lt, nat_le, if◌then◌else◌, List, [], ◌∷◌, ◌++◌, length, drop, find, filter, map, flat_map, count_by, ℤ, Option, Some, None, option_and_then, is_some}
use Rattle.std.specs.Char.{is_ascii_digit, is_ascii_alphabetic, to_ascii_uppercase}
use Rattle.std.specs.List.{list_all, list_any, slice_split, before_first, after_first}
use Rattle.std.specs.Option.{option_map_or}
use Rattle.std.specs.Str.Parse.{digits_value, starts_with_minus}
use Rattle.nest_base.specs.Lines.{is_blank}
use Rattle.micron_decimals.specs.Decimals.{are_digits, plain_of, micron_of}

-- a letter in upper case, and its number as it stands
pub record Word : Type 0 where
  pub letter : ℕ
  pub number : List ℕ

-- `(` begins a comment
abbrev pub opens_comment : ℕ → Bool
opens_comment b = b == 40

-- `)` ends it
abbrev pub closes_comment : ℕ → Bool
closes_comment b = b == 41

-- of the parts of a line between its `(`, the first has no `)`, and each other has one
abbrev pub are_commented : List (List ℕ) → Bool
are_commented [] = true
are_commented (part ∷ parts) = (count_by closes_comment part == 0) && list_all (λ p. count_by closes_comment p == 1) parts

-- what these parts hold outside of comments
abbrev pub uncommented : List (List ℕ) → List ℕ
uncommented [] = []
uncommented (part ∷ parts) = part ++ flat_map (after_first closes_comment) parts

-- what is left of a line without its comments, then without blanks and tabs
abbrev pub bare : List ℕ → List ℕ
bare line = filter (λ b. not (is_blank b)) (uncommented (slice_split opens_comment line))

-- each letter, with what stands up to the next one
abbrev pub words_of : List ℕ → List Word
words_of [] = []
words_of (b ∷ text) = if is_ascii_alphabetic b then record { letter = to_ascii_uppercase b; number = before_first is_ascii_alphabetic text } ∷ words_of text else words_of text

-- the text is a list of words: it begins with a letter, and behind each letter stands a number
abbrev pub are_words : List ℕ → Bool
are_words [] = true
are_words (b ∷ text) = is_ascii_alphabetic b && list_all (λ (w : Word). is_some (plain_of w.number)) (words_of (b ∷ text))

-- a line that is read: `%` alone, or words
pub data Content : Type 0 where
  Mark : Content
  Words : List Word → Content

-- the words of a text, where it is a list of words
abbrev pub content_in : List ℕ → Option Content
content_in text = if are_words text then Some (Words (words_of text)) else None

-- what a line without comments and blanks holds: nothing, `%` alone, or words
abbrev pub mark_or_words : List ℕ → Option Content
mark_or_words [] = Some (Words [])
mark_or_words (b ∷ []) = if b == 37 then Some Mark else None
mark_or_words (b ∷ c ∷ text) = content_in (b ∷ c ∷ text)

-- what a line holds; none where it has more than 256 bytes, a comment that isn't closed, or what is neither `%` nor words
abbrev pub content_of : List ℕ → Option Content
content_of line = if nat_le (length line) 256 && are_commented (slice_split opens_comment line) then mark_or_words (bare line) else None

-- the words of a line; `%` alone has none
abbrev pub words_in : Content → List Word
words_in Mark = []
words_in (Words ws) = ws

-- the word has this letter
abbrev pub has_letter : ℕ → Word → Bool
has_letter letter w = w.letter == letter

-- the number of a word that has digits alone
abbrev pub whole_number : Word → Option ℕ
whole_number w = if nat_lt 0 (length w.number) && are_digits w.number then Some (digits_value 10 w.number) else None

-- the word has this letter and one of these numbers, in digits alone
abbrev pub is_one_of : ℕ → List ℕ → Word → Bool
is_one_of letter numbers w = has_letter letter w && option_map_or (λ n. list_any (nat_eq n) numbers) (whole_number w) false

-- a G with one of these numbers
abbrev pub is_g : List ℕ → Word → Bool
is_g numbers w = is_one_of 71 numbers w

-- an M with one of these numbers
abbrev pub is_m : List ℕ → Word → Bool
is_m numbers w = is_one_of 77 numbers w

-- G0 or G1: a way to go, which the later lines keep
abbrev pub is_motion : Word → Bool
is_motion w = is_g (0 ∷ 1 ∷ []) w

-- G4: a stop, for a time P
abbrev pub is_dwell : Word → Bool
is_dwell w = is_g (4 ∷ []) w

-- G21: millimetres, the only unit
abbrev pub is_unit : Word → Bool
is_unit w = is_g (21 ∷ []) w

-- G90 or G91: absolute or relative places
abbrev pub is_distance : Word → Bool
is_distance w = is_g (90 ∷ 91 ∷ []) w

-- M3 or M5: the torch is lit or put out
abbrev pub is_torch : Word → Bool
is_torch w = is_m (3 ∷ 5 ∷ []) w

-- M2 or M30: the program ends
abbrev pub is_end : Word → Bool
is_end w = is_m (2 ∷ 30 ∷ []) w

-- G17, G40, G49 or G94: words without effect, which a line may repeat
abbrev pub is_idle : Word → Bool
is_idle w = is_g (17 ∷ 40 ∷ 49 ∷ 94 ∷ []) w

-- of each of these kinds a line has at most one word; the letters are N, F, S, P, X, Y
abbrev pub once_a_line : List (Word → Bool)
once_a_line = is_motion ∷ is_dwell ∷ is_unit ∷ is_distance ∷ is_torch ∷ is_end ∷ map has_letter (78 ∷ 70 ∷ 83 ∷ 80 ∷ 88 ∷ 89 ∷ [])

-- the word has a meaning
abbrev pub is_known : Word → Bool
is_known w = is_idle w || list_any (λ (is_kind : Word → Bool). is_kind w) once_a_line

-- 1 to 5 digits
abbrev pub is_short : Word → Bool
is_short w = nat_lt 0 (length w.number) && nat_le (length w.number) 5 && are_digits w.number

-- a minus and a digit other than 0
abbrev pub is_negative : Word → Bool
is_negative w = starts_with_minus w.number && list_any (λ b. is_ascii_digit b && not (b == 48)) w.number

-- F, S or P, whose numbers aren't negative
abbrev pub is_amount : Word → Bool
is_amount w = has_letter 70 w || has_letter 83 w || has_letter 80 w

-- N, the number of a line
abbrev pub is_label : Word → Bool
is_label w = has_letter 78 w

-- what the words of a line have to be, whatever came before it
abbrev pub are_lawful : List Word → Bool
are_lawful ws =
    list_all (λ (is_kind : Word → Bool). nat_le (count_by is_kind ws) 1) once_a_line
    && list_all (λ w. not (is_label w)) (drop 1 ws) && list_all (λ w. not (is_label w) || is_short w) ws
    && list_all (λ w. not (is_amount w) || not (is_negative w)) ws
    && nat_eq (count_by is_dwell ws) (count_by (has_letter 80) ws)

-- X or Y
abbrev pub is_axis : Word → Bool
is_axis w = has_letter 88 w || has_letter 89 w

-- the number of the word with this letter, in micrometres
abbrev pub axis_in : ℕ → List Word → Option ℤ
axis_in letter ws = option_and_then (λ (w : Word). micron_of w.number) (find (has_letter letter) ws)
