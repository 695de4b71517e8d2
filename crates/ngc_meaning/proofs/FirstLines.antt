-- The first line of a text.
use Rattle.std.proofs.Common.{arith, ◌≡◌, ℕ, ◌+◌, ◌-◌, ◌<◌, ◌≤◌, Bool, true, false, List, [], ◌∷◌, length, take, drop, refl, ap, ◌∙◌, Some, None}
use Rattle.std.specs.Prelude.{◌==◌, position, nat_lt, if◌then◌else◌, cond, not}
use Rattle.std.specs.List.{slice_split, onto_first, position_or_len, before_first, after_first}
use Rattle.std.specs.Str.Lines.{lines_of_parts, strip_carriage_return}
use Rattle.std.proofs.lemmas.Grind.{common_steps}
use Rattle.std.proofs.lemmas.List.Splits.{slice_split_first, slice_split-cons_no, length-slice_split}
use Rattle.nest_base.specs.Lines.{lines_of}

-- an LF ends a line
abbrev pub ends : ℕ → Bool
ends b = b == 10

more_parts : (x : List ℕ) (parts : List (List ℕ)) → 0 < length parts → lines_of_parts (x ∷ parts) ≡ strip_carriage_return x ∷ lines_of_parts parts
more_parts x [] h = absurd (omega (arith, h))
more_parts x (y ∷ more) h = refl

some_parts : (text : List ℕ) → 0 < length (slice_split ends text)
some_parts text = omega (arith, length-slice_split ends text)

place_is : (k n i : ℕ) → (if nat_lt k n then Some k else None) ≡ Some i → (k ≡ i) × (k < n)
place_is k n i e = grind (arith, common_steps, e)

no_place : (k n : ℕ) → (if nat_lt k n then Some k else None) ≡ None → n ≤ k
no_place k n e = grind (arith, common_steps, e)

-- the first line ends at place i
pub ended_line : (text : List ℕ) (i : ℕ) → position ends text ≡ Some i → lines_of text ≡ strip_carriage_return (take i text) ∷ lines_of (drop (i + 1) text)
ended_line text i e =
    let at = place_is (position_or_len ends text) (length text) i e in
    ap lines_of_parts (slice_split_first ends text 0 at.1) ∙ more_parts (before_first ends text) (slice_split ends (after_first ends text)) (some_parts (after_first ends text))
    ∙ ap (λ k. strip_carriage_return (take k text) ∷ lines_of (drop (k + 1) text)) at.0

-- no LF ends it
one_part : (text : List ℕ) → length text ≤ position_or_len ends text → slice_split ends text ≡ text ∷ []
one_part [] h = refl
one_part (b ∷ text) h = by (one_part text)
  where
    first : (t : Bool) → length text + 1 ≤ cond (not t) (1 + position_or_len ends text) 0 → (t ≡ false) × (length text ≤ position_or_len ends text)
    first true k = absurd (omega (arith, k))
    first false k = (refl, omega (arith, k))

    by : (length text ≤ position_or_len ends text → slice_split ends text ≡ text ∷ []) → slice_split ends (b ∷ text) ≡ (b ∷ text) ∷ []
    by rest = let f = first (ends b) (omega (arith, h)) in slice_split-cons_no ends b text f.0 ∙ ap (onto_first b) (rest f.1)

pub last_line : (text : List ℕ) → 0 < length text → position ends text ≡ None → lines_of text ≡ text ∷ []
last_line text some e = ap lines_of_parts (one_part text (no_place (position_or_len ends text) (length text) e)) ∙ by text some
  where
    by : (text : List ℕ) → 0 < length text → lines_of_parts (text ∷ []) ≡ text ∷ []
    by [] h = absurd (omega (arith, h))
    by (b ∷ text) h = grind (arith, common_steps)

-- behind the last line stands nothing
pub nothing_left : (text : List ℕ) → take (length text - length text) (drop (length text) text) ≡ []
nothing_left text = ap (λ n. take n (drop (length text) text)) (by (length text))
  where
    by : (n : ℕ) → n - n ≡ 0
    by n = omega arith
