-- The lines of written code, as words, and what is read from them.
-- Letters and digits stand by their codes: 70 is F, 71 G, 77 M, 83 S, 88 X, 89 Y, and 48 is 0.
use Rattle.std.proofs.Common.{arith, ◌≡◌, ℕ, ℤ, ◌≤◌, ◌<◌, ◌^◌, lit≤, List, [], ◌∷◌, ◌++◌, length, map, Some, refl, sym, ap, ◌∙◌}
use Rattle.std.proofs.lemmas.Grind.{common_steps}
use Rattle.std.specs.Prelude.{◌==◌, ◌&&◌, Bool, true, false, nat_le, is_some, flat_map, codes, unsigned_abs}
use Rattle.std.specs.Int.{IsInRange}
use Rattle.std.specs.List.{AllByRecursion, list_all}
use Rattle.std.proofs.lemmas.Bool.{and_parts, leb-true}
use Rattle.std.proofs.lemmas.List.{append-nil, append_assoc, map-append, length-append}
use Rattle.std.proofs.lemmas.List.Concat.{flat_map-append}
use Rattle.nest_base.specs.declared.places.Point.{Point}
use Rattle.nest_base.specs.Lines.{lines_of}
use Rattle.micron_decimals.specs.Decimals.{plain_of, micron_text}
use Rattle.code_moves.specs.CodeText.{head_text, motion_text, chain_text, tail_text, code_text}
use Rattle.code_moves.specs.Words.{Word, Words, content_of}
use Rattle.micron_decimals.proofs.Bytes.{all-append}
use Rattle.code_moves.proofs.Bytes.{all-map}
use Rattle.micron_decimals.proofs.WrittenNumbers.{NumberBytes, written_number}
use Rattle.code_moves.proofs.WrittenLines.{IsOneLine, written, lines_written}
use Rattle.code_moves.proofs.LineWords.{line_text, IsWord, none_in_line, content_of-line}

abbrev pub word : ℕ → List ℕ → Word
word letter number = record { letter = letter; number = number }

-- a line that goes to p, by G0 or G1
abbrev pub motion_words : List ℕ → Point → List Word
motion_words number p = word 71 number ∷ word 88 (micron_text p.x) ∷ word 89 (micron_text p.y) ∷ []

-- G0, unlit
abbrev pub travel : Point → List Word
travel p = motion_words (48 ∷ []) p

-- G1, burning
abbrev pub burn : Point → List Word
burn p = motion_words (49 ∷ []) p

-- M and one digit
abbrev pub torch_words : ℕ → List Word
torch_words digit = word 77 (digit ∷ []) ∷ []

-- G21 G90
abbrev pub units_words : List Word
units_words = word 71 (50 ∷ 49 ∷ []) ∷ word 71 (57 ∷ 48 ∷ []) ∷ []

-- F1000 S1
abbrev pub feed_words : List Word
feed_words = word 70 (49 ∷ 48 ∷ 48 ∷ 48 ∷ []) ∷ word 83 (49 ∷ []) ∷ []

abbrev pub head_lines : List (List Word)
head_lines = units_words ∷ feed_words ∷ []

-- burning to each of these places, and then the torch is put out by M5
abbrev pub burn_lines : List Point → List (List Word)
burn_lines places = map burn places ++ torch_words 53 ∷ []

-- unlit to the first place, and the torch is lit by M3
abbrev pub chain_lines : List Point → List (List Word)
chain_lines [] = []
chain_lines (p ∷ places) = travel p ∷ torch_words 51 ∷ burn_lines places

-- the program ends by M2
abbrev pub tail_lines : List (List Word)
tail_lines = torch_words 50 ∷ []

abbrev pub code_lines : List (List Point) → List (List Word)
code_lines chains = head_lines ++ flat_map chain_lines chains ++ tail_lines

-- a text of these lines
abbrev text_of : List (List Word) → List ℕ
text_of lines = written (map line_text lines)

text_of-append : (xs ys : List (List Word)) → text_of (xs ++ ys) ≡ text_of xs ++ text_of ys
text_of-append xs ys = ap written (map-append line_text xs ys) ∙ flat_map-append (λ (line : List ℕ). line ++ 10 ∷ []) (map line_text xs) (map line_text ys)

-- the text of each part is that of its lines
motion_text_is : (digit : ℕ) (p : Point) → motion_text (71 ∷ digit ∷ []) p ≡ line_text (motion_words (digit ∷ []) p) ++ 10 ∷ []
motion_text_is digit p = spread (micron_text p.x) (micron_text p.y)
  where
    spread : (x y : List ℕ) → (71 ∷ digit ∷ 32 ∷ 88 ∷ x) ++ (32 ∷ 89 ∷ []) ++ y ++ 10 ∷ [] ≡ (71 ∷ digit ∷ 32 ∷ 88 ∷ (x ++ (32 ∷ 89 ∷ (y ++ [])))) ++ 10 ∷ []
    spread x y = simp (append_assoc, append-nil)

burns_text : (places : List Point) → flat_map (motion_text (codes "G1")) places ≡ text_of (map burn places)
burns_text [] = refl
burns_text (p ∷ places) = ap (λ r. r ++ flat_map (motion_text (codes "G1")) places) (motion_text_is 49 p) ∙ ap (λ r. (line_text (burn p) ++ 10 ∷ []) ++ r) (burns_text places)

chain_text_is : (places : List Point) → chain_text places ≡ text_of (chain_lines places)
chain_text_is [] = refl
chain_text_is (p ∷ places) =
    let begun = line_text (travel p) ++ 10 ∷ [] in
    ap (λ r. r ++ codes "M3\n" ++ flat_map (motion_text (codes "G1")) places ++ codes "M5\n") (motion_text_is 48 p)
    ∙ ap (λ r. begun ++ codes "M3\n" ++ r ++ codes "M5\n") (burns_text places)
    ∙ regrouped begun (codes "M3\n") (text_of (map burn places)) (codes "M5\n")
    ∙ ap (λ r. begun ++ (codes "M3\n" ++ r)) (sym (text_of-append (map burn places) (torch_words 53 ∷ [])))
  where
    regrouped : (a b c d : List ℕ) → a ++ b ++ c ++ d ≡ a ++ (b ++ (c ++ d))
    regrouped a b c d = simp append_assoc

chains_text : (chains : List (List Point)) → flat_map chain_text chains ≡ text_of (flat_map chain_lines chains)
chains_text [] = refl
chains_text (places ∷ chains) = ap (λ r. r ++ flat_map chain_text chains) (chain_text_is places) ∙ ap (λ r. text_of (chain_lines places) ++ r) (chains_text chains) ∙ sym (text_of-append (chain_lines places) (flat_map chain_lines chains))

code_text_is : (chains : List (List Point)) → code_text chains ≡ text_of (code_lines chains)
code_text_is chains = ap (λ r. head_text ++ r ++ tail_text) (chains_text chains) ∙ sym (text_of-append (head_lines ++ flat_map chain_lines chains) tail_lines ∙ ap (λ r. r ++ tail_text) (text_of-append head_lines (flat_map chain_lines chains)))

-- words that fit on a line
pub record IsLine (ws : List Word) : Type 0 where
  pub words : AllByRecursion IsWord ws
  pub short : length (line_text ws) ≤ 256

one_line : (ws : List Word) → IsLine ws → IsOneLine (line_text ws)
one_line ws h = record { no_lf = none_in_line (λ b. b == 10) no_lf refl ws h.words; no_cr = none_in_line (λ b. b == 13) no_cr refl ws h.words }
  where
    no_lf : (b : ℕ) → IsInRange 45 90 b → (b == 10) ≡ false
    no_lf b h = grind (arith, common_steps, h)

    no_cr : (b : ℕ) → IsInRange 45 90 b → (b == 13) ≡ false
    no_cr b h = grind (arith, common_steps, h)

-- both numbers of a place have at most 64 bits
pub record IsWritable (p : Point) : Type 0 where
  pub x : unsigned_abs p.x < 2 ^ 64
  pub y : unsigned_abs p.y < 2 ^ 64

-- a letter and a written number are a word
number_word : (letter : ℕ) (z : ℤ) → IsInRange 65 90 letter → unsigned_abs z < 2 ^ 64 → IsWord (word letter (micron_text z))
number_word letter z l h = let n = written_number z h in record { letter = l; bytes = n.bytes; plain = n.plain }

motion_is_line : (digit : ℕ) (p : Point) → IsWord (word 71 (digit ∷ [])) → IsWritable p → IsLine (motion_words (digit ∷ []) p)
motion_is_line digit p w h = record {
  words = (w, (number_word 88 p.x (lit≤ tt, lit≤ tt) h.x, (number_word 89 p.y (lit≤ tt, lit≤ tt) h.y, tt)));
  short = short_line (micron_text p.x) (micron_text p.y) (written_number p.x h.x).short (written_number p.y h.y).short;
}
  where
    short_line : (x y : List ℕ) → length x ≤ 24 → length y ≤ 24 → length (line_text (word 71 (digit ∷ []) ∷ word 88 x ∷ word 89 y ∷ [])) ≤ 256
    short_line x y h k = omega (arith, length-append x (32 ∷ 89 ∷ (y ++ [])), length-append y [])

-- the same as IsWord, as a test that computes on literal words
abbrev is_word : Word → Bool
is_word w = (nat_le 65 w.letter && nat_le w.letter 90) && (list_all (λ b. nat_le 45 b && nat_le b 57) w.number && is_some (plain_of w.number))

in_range : (low high b : ℕ) → (nat_le low b && nat_le b high) ≡ true → IsInRange low high b
in_range low high b h = let both = and_parts (nat_le low b) (nat_le b high) h in (leb-true low b both.0, leb-true b high both.1)

all_in_range : (bytes : List ℕ) → list_all (λ b. nat_le 45 b && nat_le b 57) bytes ≡ true → NumberBytes bytes
all_in_range [] h = tt
all_in_range (b ∷ bytes) h = let both = and_parts (nat_le 45 b && nat_le b 57) (list_all (λ b. nat_le 45 b && nat_le b 57) bytes) h in (in_range 45 57 b both.0, all_in_range bytes both.1)

word_by_test : (w : Word) → is_word w ≡ true → IsWord w
word_by_test w h =
    let letter_and_rest = and_parts (nat_le 65 w.letter && nat_le w.letter 90) (list_all (λ b. nat_le 45 b && nat_le b 57) w.number && is_some (plain_of w.number)) h in
    let bytes_and_plain = and_parts (list_all (λ b. nat_le 45 b && nat_le b 57) w.number) (is_some (plain_of w.number)) letter_and_rest.1 in
    record { letter = in_range 65 90 w.letter letter_and_rest.0; bytes = all_in_range w.number bytes_and_plain.0; plain = bytes_and_plain.1 }

words_by_test : (ws : List Word) → list_all is_word ws ≡ true → AllByRecursion IsWord ws
words_by_test [] h = tt
words_by_test (w ∷ ws) h = let both = and_parts (is_word w) (list_all is_word ws) h in (word_by_test w both.0, words_by_test ws both.1)

line_by_test : (ws : List Word) → list_all is_word ws ≡ true → nat_le (length (line_text ws)) 256 ≡ true → IsLine ws
line_by_test ws h s = record { words = words_by_test ws h; short = leb-true (length (line_text ws)) 256 s }

-- each line of a code is a line of words
travel_is_line : (p : Point) → IsWritable p → IsLine (travel p)
travel_is_line p h = motion_is_line 48 p (word_by_test (word 71 (48 ∷ [])) refl) h

burn_is_line : (p : Point) → IsWritable p → IsLine (burn p)
burn_is_line p h = motion_is_line 49 p (word_by_test (word 71 (49 ∷ [])) refl) h

burn_lines_are_lines : (places : List Point) → AllByRecursion IsWritable places → AllByRecursion IsLine (burn_lines places)
burn_lines_are_lines places h = all-append IsLine (map burn places) (torch_words 53 ∷ []) (all-map IsWritable IsLine burn burn_is_line places h) (line_by_test (torch_words 53) refl refl, tt)

chain_lines_are_lines : (places : List Point) → AllByRecursion IsWritable places → AllByRecursion IsLine (chain_lines places)
chain_lines_are_lines [] h = tt
chain_lines_are_lines (p ∷ places) h = (travel_is_line p h.0, (line_by_test (torch_words 51) refl refl, burn_lines_are_lines places h.1))

chains_are_lines : (chains : List (List Point)) → AllByRecursion (AllByRecursion IsWritable) chains → AllByRecursion IsLine (flat_map chain_lines chains)
chains_are_lines [] h = tt
chains_are_lines (places ∷ chains) h = all-append IsLine (chain_lines places) (flat_map chain_lines chains) (chain_lines_are_lines places h.0) (chains_are_lines chains h.1)

head_is_lines : AllByRecursion IsLine head_lines
head_is_lines = (line_by_test units_words refl refl, (line_by_test feed_words refl refl, tt))

-- all lines of written code are lines of words
pub code_is_lines : (chains : List (List Point)) → AllByRecursion (AllByRecursion IsWritable) chains → AllByRecursion IsLine (code_lines chains)
code_is_lines chains h = all-append IsLine (head_lines ++ flat_map chain_lines chains) tail_lines
    (all-append IsLine head_lines (flat_map chain_lines chains) head_is_lines (chains_are_lines chains h)) (line_by_test (torch_words 50) refl refl, tt)

-- the lines of a written code
pub lines_of-code_text : (chains : List (List Point)) → AllByRecursion (AllByRecursion IsWritable) chains → lines_of (code_text chains) ≡ map line_text (code_lines chains)
lines_of-code_text chains h = ap lines_of (code_text_is chains) ∙ lines_written (map line_text (code_lines chains)) (all-map IsLine IsOneLine line_text one_line (code_lines chains) (code_is_lines chains h))

pub content_of-line_text : (ws : List Word) → IsLine ws → content_of (line_text ws) ≡ Some (Words ws)
content_of-line_text ws h = content_of-line ws h.words h.short
