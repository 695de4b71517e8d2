-- The words of a text, as far as they are read.
use Rattle.std.proofs.Common.{arith, ◌≡◌, ℕ, Bool, true, false, List, [], ◌∷◌, ◌++◌, ◌≤◌, ◌-◌, length, get_or, take, drop, Some, None, inl, inr, refl, sym, ap, subst, ◌∙◌, append_assoc}
use Rattle.std.specs.Prelude.{◌&&◌, is_some}
use Rattle.std.specs.Char.{is_ascii_alphabetic, to_ascii_uppercase}
use Rattle.std.specs.List.{position_or_len, before_first}
use Rattle.std.proofs.lemmas.List.{append-nil, take_all}
use Rattle.std.proofs.lemmas.List.Folds.{list_all-append}
use Rattle.micron_decimals.specs.Decimals.{plain_of}
use Rattle.code_moves.specs.Words.{Word, words_of, are_words}
use Rattle.ngc_meaning.specs.declared.block.Block.{Block}
use Rattle.ngc_meaning.specs.Blocks.{Says, are_consistent, fits_in, with_word}
use Rattle.ngc_meaning.specs.Contents.{IsTextRead, are_plain}
use Rattle.ngc_meaning.proofs.SaidBlocks.{says_more, fits_is}
use Rattle.ngc_meaning.proofs.WordsOfText.{from_letter, words_skip, words_begin}

-- the block holds the words before the rest of a text
pub record WordsSoFar (text rest : List ℕ) (b : Block) : Type 0 where
  pub before : List Word
  pub says : Says before b
  pub words : words_of text ≡ before ++ words_of rest
  pub consistent : are_consistent [] (words_of text) ≡ are_consistent before (words_of rest)
  pub plain : are_plain before ≡ true
  pub are : are_words text ≡ are_words rest

-- before the first word
pub no_word : (text : List ℕ) (b : Block) → Says [] b → WordsSoFar text text b
no_word text b says = record { before = []; says = says; words = refl; consistent = refl; plain = refl; are = refl }

-- behind the last
pub all_words : (text rest : List ℕ) (b : Block) → WordsSoFar text rest b → rest ≡ [] → IsTextRead text (Some b)
all_words text rest b h e =
    let whole = h.words ∙ ap (λ r. h.before ++ words_of r) e ∙ append-nil h.before in (
      h.are ∙ ap are_words e,
      record {
        says = subst (λ ws. Says ws b) (sym whole) h.says;
        consistent = h.consistent ∙ ap (λ r. are_consistent h.before (words_of r)) e;
        plain = ap are_plain whole ∙ h.plain;
      },
    )

-- no letter
pub no_letter : (text rest : List ℕ) (b : Block) (letter : ℕ) (behind : List ℕ) → WordsSoFar text rest b → rest ≡ letter ∷ behind → is_ascii_alphabetic letter ≡ false → IsTextRead text None
no_letter text rest b letter behind h e other = inl (h.are ∙ ap are_words e ∙ rw other refl)

-- no number
pub no_number : (text rest : List ℕ) (b : Block) (letter : ℕ) (behind : List ℕ) → WordsSoFar text rest b → rest ≡ letter ∷ behind → is_ascii_alphabetic letter ≡ true →
    is_some (plain_of (before_first is_ascii_alphabetic behind)) ≡ false → IsTextRead text None
no_number text rest b letter behind h e alpha number = inl (h.are ∙ ap are_words e ∙ rw (alpha, number) refl)

-- the next word of a text
abbrev pub next_word : ℕ → List ℕ → Word
next_word letter behind = record { letter = to_ascii_uppercase letter; number = before_first is_ascii_alphabetic behind }

words_at : (letter : ℕ) (behind : List ℕ) → is_ascii_alphabetic letter ≡ true → words_of (letter ∷ behind) ≡ next_word letter behind ∷ words_of behind
words_at letter behind alpha = rw alpha refl

-- the words so far are consistent with the rest where the next one fits
next_fits : (text rest : List ℕ) (b : Block) (letter : ℕ) (behind : List ℕ) (t : Bool) (h : WordsSoFar text rest b) → rest ≡ letter ∷ behind → is_ascii_alphabetic letter ≡ true →
    fits_in b (next_word letter behind) ≡ t → are_consistent [] (words_of text) ≡ (t && are_consistent (h.before ++ next_word letter behind ∷ []) (words_of behind))
next_fits text rest b letter behind t h e alpha fits =
    h.consistent ∙ ap (are_consistent h.before) (ap words_of e ∙ words_at letter behind alpha)
    ∙ ap (λ f. f && are_consistent (h.before ++ next_word letter behind ∷ []) (words_of behind)) (sym (fits_is h.before b (next_word letter behind) h.says) ∙ fits)

-- a word that contradicts those before it
pub no_fit : (text rest : List ℕ) (b : Block) (letter : ℕ) (behind : List ℕ) → WordsSoFar text rest b → rest ≡ letter ∷ behind → is_ascii_alphabetic letter ≡ true →
    fits_in b (next_word letter behind) ≡ false → IsTextRead text None
no_fit text rest b letter behind h e alpha fits = inr (next_fits text rest b letter behind false h e alpha fits)

-- one word more
pub word_more : (text rest : List ℕ) (b n : Block) (letter : ℕ) (behind : List ℕ) → WordsSoFar text rest b → rest ≡ letter ∷ behind → is_ascii_alphabetic letter ≡ true →
    is_some (plain_of (before_first is_ascii_alphabetic behind)) ≡ true → fits_in b (next_word letter behind) ≡ true → n ≡ with_word b (next_word letter behind) →
    WordsSoFar text (from_letter behind) n
word_more text rest b n letter behind h e alpha number fits next =
    let w = next_word letter behind in
    record {
      before = h.before ++ w ∷ [];
      says = subst (Says (h.before ++ w ∷ [])) (sym next) (says_more h.before b w h.says);
      words = h.words ∙ ap (λ r. h.before ++ words_of r) e ∙ ap (λ ws. h.before ++ ws) (words_at letter behind alpha) ∙ ap (λ ws. h.before ++ w ∷ ws) (words_skip behind)
          ∙ sym (append_assoc h.before (w ∷ []) (words_of (from_letter behind)));
      consistent = next_fits text rest b letter behind true h e alpha fits ∙ ap (are_consistent (h.before ++ w ∷ [])) (words_skip behind);
      plain = list_all-append (λ (v : Word). is_some (plain_of v.number)) h.before (w ∷ []) ∙ rw h.plain (rw number refl);
      are = h.are ∙ ap are_words e ∙ rw (alpha, number) refl ∙ sym (words_begin behind);
    }

-- a text that isn't empty, by its first byte
pub by_first : (rest : List ℕ) → 1 ≤ length rest → rest ≡ get_or rest 0 0 ∷ take (length rest - 1) (drop 1 rest)
by_first [] h = absurd (omega (arith, h))
by_first (b ∷ rest) h = ap (λ r. b ∷ r) (sym (take_all (length (b ∷ rest) - 1) rest (omega arith)))

-- what was read is the next word
pub next_is : (letter upper place : ℕ) (behind number : List ℕ) → upper ≡ to_ascii_uppercase letter → place ≡ position_or_len is_ascii_alphabetic behind → number ≡ take place behind →
    record { letter = upper; number = number } ≡ next_word letter behind
next_is letter upper place behind number e f g = rw (g, f, e) refl
