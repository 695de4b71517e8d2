-- What a line holds, by what is left of it without comments and blanks.
use Rattle.std.proofs.Common.{◌≡◌, ℕ, ◌≤◌, Bool, true, false, List, [], ◌∷◌, length, Some, None, inl, inr, refl, sym, ap, subst, ◌∙◌}
use Rattle.std.specs.Prelude.{◌==◌, Option, option_and_then, option_map, if◌then◌else◌}
use Rattle.std.specs.Char.{is_ascii_alphabetic}
use Rattle.std.specs.List.{slice_split}
use Rattle.std.proofs.lemmas.Bool.{le-leb}
use Rattle.code_moves.specs.Words.{Mark, Words, opens_comment, are_commented, bare, words_of, are_words, content_in, mark_or_words, content_of}
use Rattle.ngc_meaning.specs.declared.block.Block.{Block}
use Rattle.ngc_meaning.specs.declared.line.Line.TheVariants.{Words as WordsRead}
use Rattle.ngc_meaning.specs.Bare.{left_of}
use Rattle.ngc_meaning.specs.Contents.{IsTextRead, IsRead, is_mark_alone}

-- a letter alone has no number
one_byte : (b : ℕ) → content_in (b ∷ []) ≡ None
one_byte b = by (is_ascii_alphabetic b) refl
  where
    by : (t : Bool) → is_ascii_alphabetic b ≡ t → content_in (b ∷ []) ≡ None
    by true e = rw e refl
    by false e = rw e refl

content_by_mark : (text : List ℕ) → mark_or_words text ≡ (if is_mark_alone text then Some Mark else content_in text)
content_by_mark [] = refl
content_by_mark (b ∷ []) = ap (λ o. if b == 37 then Some Mark else o) (sym (one_byte b))
content_by_mark (b ∷ c ∷ text) = refl

-- what a short line holds
content_by : (line : List ℕ) → length line ≤ 256 → content_of line ≡ option_and_then mark_or_words (left_of line)
content_by line h = rw (le-leb (length line) 256 h) (by (are_commented (slice_split opens_comment line)))
  where
    by : (t : Bool) → (if t then mark_or_words (bare line) else None) ≡ option_and_then mark_or_words (if t then Some (bare line) else None)
    by true = refl
    by false = refl

read_words : (text : List ℕ) (r : Option Block) → IsTextRead text r → IsRead (content_in text) (option_map WordsRead r)
read_words text (Some b) h = rw h.0 (words_of text, refl, h.1)
read_words text None (inl h) = rw h (inl refl)
read_words text None (inr h) = by (are_words text)
  where
    by : (t : Bool) → IsRead (if t then Some (Words (words_of text)) else None) None
    by true = inr (words_of text, refl, h)
    by false = inl refl

-- words, or what is no list of them
pub worded : (line text : List ℕ) (r : Option Block) → length line ≤ 256 → left_of line ≡ Some text → is_mark_alone text ≡ false → IsTextRead text r → IsRead (content_of line) (option_map WordsRead r)
worded line text r h e m read = subst (λ c. IsRead c (option_map WordsRead r)) (sym (content_by line h ∙ ap (option_and_then mark_or_words) e ∙ content_by_mark text ∙ rw m refl)) (read_words text r read)
