-- What is read of a line.
use Rattle.std.specs.Prelude.{◌≡◌, ◌⊎◌, ℕ, Bool, false, List, [], ◌∷◌, Option, Some, None, IsTrue, is_some, ◌==◌}
use Rattle.std.specs.List.{list_all}
use Rattle.micron_decimals.specs.Decimals.{plain_of}
use Rattle.code_moves.specs.Words.{Word, Content, Mark, Words, words_of, are_words}
use Rattle.ngc_meaning.specs.declared.block.Block.{Block}
use Rattle.ngc_meaning.specs.declared.line.Line.{Line}
use Rattle.ngc_meaning.specs.declared.line.Line.TheVariants.{Mark as MarkRead, Words as WordsRead}
use Rattle.ngc_meaning.specs.Blocks.{Says, are_consistent}

-- the numbers of all words are plain decimals
abbrev pub are_plain : List Word → Bool
are_plain ws = list_all (λ (w : Word). is_some (plain_of w.number)) ws

-- a block holds what these words say, and they don't contradict one another
pub record IsBlockOf (ws : List Word) (b : Block) : Type 0 where
  pub says : Says ws b
  pub consistent : IsTrue (are_consistent [] ws)
  pub plain : IsTrue (are_plain ws)

-- a text is read as words: the block of them, or none where it's no list of words or they contradict one another
abbrev pub IsTextRead : List ℕ → Option Block → Type 0
IsTextRead text (Some b) = IsTrue (are_words text) × IsBlockOf (words_of text) b
IsTextRead text None = (are_words text ≡ false) ⊎ (are_consistent [] (words_of text) ≡ false)

-- a text is `%` alone
abbrev pub is_mark_alone : List ℕ → Bool
is_mark_alone [] = false
is_mark_alone (b ∷ []) = b == 37
is_mark_alone (b ∷ c ∷ text) = false

-- what a line holds is read: `%` alone, or the block of its words; or none where it isn't read at all or its words contradict one another
abbrev pub IsRead : Option Content → Option Line → Type 0
IsRead content (Some MarkRead) = content ≡ Some Mark
IsRead content (Some (WordsRead b)) = (ws : List Word) × (content ≡ Some (Words ws)) × IsBlockOf ws b
IsRead content None = (content ≡ None) ⊎ ((ws : List Word) × (content ≡ Some (Words ws)) × (are_consistent [] ws ≡ false))
