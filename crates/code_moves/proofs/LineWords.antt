-- A line of words, with a blank between each two, holds these words.
use Rattle.std.proofs.Common.{arith, ◌≡◌, ℕ, ◌≤◌, Bool, true, false, cond, List, [], ◌∷◌, ◌++◌, length, Some, None, refl, ap, ◌∙◌}
use Rattle.std.proofs.lemmas.Grind.{common_steps}
use Rattle.std.specs.Prelude.{◌==◌, ◌&&◌, not, nat_le, count_by, flat_map, Option, is_some}
use Rattle.std.specs.Char.{is_ascii_alphabetic, to_ascii_uppercase}
use Rattle.std.specs.Int.{IsInRange}
use Rattle.std.specs.List.{AllByRecursion, filter, list_all, slice_split, before_first}
use Rattle.std.proofs.lemmas.Bool.{le-leb, eq-eqb, and_from}
use Rattle.std.proofs.lemmas.List.{append-nil}
use Rattle.std.proofs.lemmas.List.Elements.{All-from_recursion, filter-append}
use Rattle.std.proofs.lemmas.List.Splits.{slice_split_none}
use Rattle.nest_base.specs.Lines.{is_blank}
use Rattle.micron_decimals.specs.Decimals.{plain_of}
use Rattle.code_moves.specs.Words.{Word, opens_comment, closes_comment, are_commented, uncommented, bare, words_of, are_words, Content, Words, content_in, mark_or_words, content_of}
use Rattle.micron_decimals.proofs.Bytes.{NonePass, all_imply, all-append, before_first_none, before_first_at}
use Rattle.code_moves.proofs.Bytes.{count_by_none}
use Rattle.micron_decimals.proofs.WrittenNumbers.{NumberBytes, number_has_no_blank}

abbrev pub word_text : Word → List ℕ
word_text w = w.letter ∷ w.number

-- the words without blanks
abbrev pub joined : List Word → List ℕ
joined ws = flat_map word_text ws

-- a blank and a word
abbrev spaced : Word → List ℕ
spaced w = 32 ∷ word_text w

-- the words of a line, with a blank between each two
abbrev pub line_text : List Word → List ℕ
line_text [] = []
line_text (w ∷ ws) = word_text w ++ flat_map spaced ws

-- a letter in upper case, and a number
pub record IsWord (w : Word) : Type 0 where
  pub letter : IsInRange 65 90 w.letter
  pub bytes : NumberBytes w.number
  pub plain : is_some (plain_of w.number) ≡ true

letter_is_letter : (b : ℕ) → IsInRange 65 90 b → (is_ascii_alphabetic b ≡ true) × (to_ascii_uppercase b ≡ b)
letter_is_letter b h = (grind (arith, common_steps, h), grind (arith, common_steps, h))

letter_is_no_blank : (b : ℕ) → IsInRange 65 90 b → is_blank b ≡ false
letter_is_no_blank b h = grind (arith, common_steps, h)

number_has_no_letter : (b : ℕ) → IsInRange 45 57 b → is_ascii_alphabetic b ≡ false
number_has_no_letter b h = grind (arith, common_steps, h)

no_letter : (w : Word) → IsWord w → NonePass is_ascii_alphabetic w.number
no_letter w h = all_imply (IsInRange 45 57) (λ b. is_ascii_alphabetic b ≡ false) number_has_no_letter w.number h.bytes

-- the number ends at the next letter
number_first : (w : Word) (ws : List Word) → IsWord w → AllByRecursion IsWord ws → before_first is_ascii_alphabetic (w.number ++ joined ws) ≡ w.number
number_first w [] h k = ap (before_first is_ascii_alphabetic) (append-nil w.number) ∙ before_first_none is_ascii_alphabetic w.number (no_letter w h)
number_first w (v ∷ ws) h k = before_first_at is_ascii_alphabetic w.number v.letter (v.number ++ joined ws) (no_letter w h) ((letter_is_letter v.letter k.0.letter).0)

-- a number begins no word
no_words : (number text : List ℕ) → NonePass is_ascii_alphabetic number → words_of (number ++ text) ≡ words_of text
no_words [] text h = refl
no_words (b ∷ number) text h = rw h.0 (no_words number text h.1)

one_word : (letter : ℕ) (number text : List ℕ) (ws : List Word) → (is_ascii_alphabetic letter ≡ true) × (to_ascii_uppercase letter ≡ letter) →
    before_first is_ascii_alphabetic text ≡ number → words_of text ≡ ws → words_of (letter ∷ text) ≡ record { letter = letter; number = number } ∷ ws
one_word letter number text ws l e k = rw (l.0, l.1, e, k) refl

-- the words are found again
pub words_of-joined : (ws : List Word) → AllByRecursion IsWord ws → words_of (joined ws) ≡ ws
words_of-joined [] h = refl
words_of-joined (w ∷ ws) h = one_word w.letter w.number (w.number ++ joined ws) ws (letter_is_letter w.letter h.0.letter) (number_first w ws h.0 h.1)
    (no_words w.number (joined ws) (no_letter w h.0) ∙ words_of-joined ws h.1)

all_plain : (ws : List Word) → AllByRecursion IsWord ws → list_all (λ (w : Word). is_some (plain_of w.number)) ws ≡ true
all_plain [] h = refl
all_plain (w ∷ ws) h = rw h.0.plain (all_plain ws h.1)

words_by : (letter : ℕ) (text : List ℕ) (ws : List Word) → is_ascii_alphabetic letter ≡ true → words_of (letter ∷ text) ≡ ws → list_all (λ (w : Word). is_some (plain_of w.number)) ws ≡ true →
    content_in (letter ∷ text) ≡ Some (Words ws)
words_by letter text ws l e k = kept (are_words (letter ∷ text)) (words_of (letter ∷ text)) ws (and_from (is_ascii_alphabetic letter) (list_all plain (words_of (letter ∷ text))) l (ap (list_all plain) e ∙ k)) e
  where
    plain : Word → Bool
    plain w = is_some (plain_of w.number)

    kept : (t : Bool) (found ws : List Word) → t ≡ true → found ≡ ws → cond t (Some (Words found)) None ≡ Some (Words ws)
    kept t found ws a e = rw a (ap (λ r. Some (Words r)) e)

pub content_in-joined : (w : Word) (ws : List Word) → AllByRecursion IsWord (w ∷ ws) → content_in (joined (w ∷ ws)) ≡ Some (Words (w ∷ ws))
content_in-joined w ws h = words_by w.letter (w.number ++ joined ws) (w ∷ ws) ((letter_is_letter w.letter h.0.letter).0) (words_of-joined (w ∷ ws) h) (all_plain (w ∷ ws) h)

-- a word has at least two bytes
longer : (letter : ℕ) (number text : List ℕ) (c : Option Content) → is_some (plain_of number) ≡ true → content_in (letter ∷ number ++ text) ≡ c → mark_or_words (letter ∷ number ++ text) ≡ c
longer letter [] text c h e = absurd (cc)
longer letter (b ∷ number) text c h e = e

mark_or_words-joined : (ws : List Word) → AllByRecursion IsWord ws → mark_or_words (joined ws) ≡ Some (Words ws)
mark_or_words-joined [] h = refl
mark_or_words-joined (w ∷ ws) h = longer w.letter w.number (joined ws) (Some (Words (w ∷ ws))) h.0.plain (content_in-joined w ws h)

-- a test that blanks, numbers and capital letters don't pass is passed by no byte of the line
pub none_in_word : (p : ℕ → Bool) → ((b : ℕ) → IsInRange 45 90 b → p b ≡ false) → (w : Word) → IsWord w → NonePass p (word_text w)
none_in_word p f w h = (f w.letter (omega (arith, h.letter.0), h.letter.1), all_imply (IsInRange 45 57) (λ b. p b ≡ false) (λ b k. f b (k.0, omega (arith, k.1))) w.number h.bytes)

none_in_more : (p : ℕ → Bool) → ((b : ℕ) → IsInRange 45 90 b → p b ≡ false) → p 32 ≡ false → (ws : List Word) → AllByRecursion IsWord ws → NonePass p (flat_map spaced ws)
none_in_more p f blank [] h = tt
none_in_more p f blank (w ∷ ws) h = (blank, all-append (λ b. p b ≡ false) (word_text w) (flat_map spaced ws) (none_in_word p f w h.0) (none_in_more p f blank ws h.1))

pub none_in_line : (p : ℕ → Bool) → ((b : ℕ) → IsInRange 45 90 b → p b ≡ false) → p 32 ≡ false → (ws : List Word) → AllByRecursion IsWord ws → NonePass p (line_text ws)
none_in_line p f blank [] h = tt
none_in_line p f blank (w ∷ ws) h = all-append (λ b. p b ≡ false) (word_text w) (flat_map spaced ws) (none_in_word p f w h.0) (none_in_more p f blank ws h.1)

-- without blanks
abbrev tight : List ℕ → List ℕ
tight text = filter (λ b. not (is_blank b)) text

tight_number : (number : List ℕ) → NumberBytes number → tight number ≡ number
tight_number [] h = refl
tight_number (b ∷ number) h = rw (number_has_no_blank b h.0) (ap (λ r. b ∷ r) (tight_number number h.1))

tight_word : (w : Word) → IsWord w → tight (word_text w) ≡ word_text w
tight_word w h = rw (letter_is_no_blank w.letter h.letter) (ap (λ r. w.letter ∷ r) (tight_number w.number h.bytes))

tight_more : (ws : List Word) → AllByRecursion IsWord ws → tight (flat_map spaced ws) ≡ joined ws
tight_more [] h = refl
tight_more (w ∷ ws) h = filter-append (λ b. not (is_blank b)) (word_text w) (flat_map spaced ws) ∙ ap (λ r. r ++ tight (flat_map spaced ws)) (tight_word w h.0) ∙ ap (λ r. word_text w ++ r) (tight_more ws h.1)

tight_line : (ws : List Word) → AllByRecursion IsWord ws → tight (line_text ws) ≡ joined ws
tight_line [] h = refl
tight_line (w ∷ ws) h = filter-append (λ b. not (is_blank b)) (word_text w) (flat_map spaced ws) ∙ ap (λ r. r ++ tight (flat_map spaced ws)) (tight_word w h.0) ∙ ap (λ r. word_text w ++ r) (tight_more ws h.1)

content_by : (line text : List ℕ) (c : Content) → length line ≤ 256 → NonePass opens_comment line → NonePass closes_comment line → tight line ≡ text → mark_or_words text ≡ Some c → content_of line ≡ Some c
content_by line text c s o k e m =
    let one_part = slice_split_none opens_comment line (All-from_recursion (λ b. opens_comment b ≡ false) line o) in
    let commented = ap are_commented one_part ∙ and_from (count_by closes_comment line == 0) true (eq-eqb (count_by closes_comment line) 0 (count_by_none closes_comment line k)) refl in
    let rest = ap (λ parts. tight (uncommented parts)) one_part ∙ ap tight (append-nil line) ∙ e in
    kept (nat_le (length line) 256 && are_commented (slice_split opens_comment line)) (bare line) text c
    (and_from (nat_le (length line) 256) (are_commented (slice_split opens_comment line)) (le-leb (length line) 256 s) commented) rest m
  where
    kept : (t : Bool) (found text : List ℕ) (c : Content) → t ≡ true → found ≡ text → mark_or_words text ≡ Some c → cond t (mark_or_words found) None ≡ Some c
    kept t found text c a e m = rw (a, e) m

-- the line is read as its words
pub content_of-line : (ws : List Word) → AllByRecursion IsWord ws → length (line_text ws) ≤ 256 → content_of (line_text ws) ≡ Some (Words ws)
content_of-line ws h s = content_by (line_text ws) (joined ws) (Words ws) s (none_in_line opens_comment no_open refl ws h) (none_in_line closes_comment no_close refl ws h) (tight_line ws h) (mark_or_words-joined ws h)
  where
    no_open : (b : ℕ) → IsInRange 45 90 b → opens_comment b ≡ false
    no_open b h = grind (arith, common_steps, h)

    no_close : (b : ℕ) → IsInRange 45 90 b → closes_comment b ≡ false
    no_close b h = grind (arith, common_steps, h)
