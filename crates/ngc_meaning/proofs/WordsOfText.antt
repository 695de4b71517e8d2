-- The words of a text, one after the other.
use Rattle.std.proofs.Common.{arith, ◌≡◌, ℕ, suc, ◌+◌, Bool, true, false, List, [], ◌∷◌, drop, refl, sym, ap, ◌∙◌}
use Rattle.std.specs.Char.{is_ascii_alphabetic}
use Rattle.std.specs.List.{position_or_len}
use Rattle.code_moves.specs.Words.{words_of, are_words}
use Rattle.ngc_meaning.specs.Contents.{are_plain}

-- the text from its first letter on
abbrev pub from_letter : List ℕ → List ℕ
from_letter text = drop (position_or_len is_ascii_alphabetic text) text

one_more : (n : ℕ) → 1 + n ≡ suc n
one_more n = omega arith

from_letter_on : (b : ℕ) (text : List ℕ) → is_ascii_alphabetic b ≡ false → from_letter (b ∷ text) ≡ from_letter text
from_letter_on b text h = rw h (ap (λ n. drop n (b ∷ text)) (one_more (position_or_len is_ascii_alphabetic text)))

from_letter_at : (b : ℕ) (text : List ℕ) → is_ascii_alphabetic b ≡ true → from_letter (b ∷ text) ≡ b ∷ text
from_letter_at b text h = rw h refl

-- what stands before the first letter is no word
pub words_skip : (text : List ℕ) → words_of text ≡ words_of (from_letter text)
words_skip [] = refl
words_skip (b ∷ text) = by (is_ascii_alphabetic b) refl (words_skip text)
  where
    by : (t : Bool) → is_ascii_alphabetic b ≡ t → words_of text ≡ words_of (from_letter text) → words_of (b ∷ text) ≡ words_of (from_letter (b ∷ text))
    by true e h = ap words_of (sym (from_letter_at b text e))
    by false e h = rw e h ∙ ap words_of (sym (from_letter_on b text e))

-- from its first letter on it's a list of words where all numbers are plain
pub words_begin : (text : List ℕ) → are_words (from_letter text) ≡ are_plain (words_of text)
words_begin [] = refl
words_begin (b ∷ text) = by (is_ascii_alphabetic b) refl (words_begin text)
  where
    by : (t : Bool) → is_ascii_alphabetic b ≡ t → are_words (from_letter text) ≡ are_plain (words_of text) → are_words (from_letter (b ∷ text)) ≡ are_plain (words_of (b ∷ text))
    by true e h = ap are_words (from_letter_at b text e) ∙ rw e refl
    by false e h = ap are_words (from_letter_on b text e) ∙ rw e h
