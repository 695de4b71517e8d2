-- A line gives at most two moves, and a code has no more lines than bytes.
use Rattle.std.proofs.Common.{◌≡◌, ℕ, ◌+◌, ◌*◌, ◌^◌, ◌≤◌, Bool, true, false, cond, List, [], ◌∷◌, ◌++◌, length, map, refl, arith, length-append}
use Rattle.std.specs.Prelude.{◌&&◌, not, ◌==◌}
use Rattle.std.specs.List.{slice_split, onto_first}
use Rattle.std.specs.Str.Lines.{lines_of_parts}
use Rattle.std.proofs.lemmas.Bool.{and_parts, and_left, and_right, not-true}
use Rattle.std.proofs.lemmas.List.{length-map}
use Rattle.nest_base.specs.Lines.{lines_of}
use Rattle.code_moves.specs.Words.{Content}
use Rattle.code_moves.specs.History.{is_lit, has_burnt, is_ended}
use Rattle.code_moves.specs.Meaning.{one_if, closing_by_m5, made, closing_by_end, moves_at, moves_from, moves_of, content_or_empty}
use Rattle.ngc_meaning.specs.CodeMoves.{most_moves}

at_most_one : {X : Type 0} (test : Bool) (x : X) → length (one_if test x) ≤ 1
at_most_one true x = omega arith
at_most_one false x = omega arith

-- of two tests of which only one passes, one thing comes
one_of_two : {X : Type 0} (first second : Bool) (x y : X) → (first ≡ true → second ≡ false) → length (one_if first x) + length (one_if second y) ≤ 1
one_of_two true second x y h = rw (h refl) (omega arith)
one_of_two false second x y h = omega (arith, at_most_one second y)

-- a line that puts the torch out ends no run of lit lines by ending the program
one_closing : (was_lit lit was_burnt ended burnt : Bool) → (was_lit && not lit && not was_burnt) ≡ true → (ended && lit && not burnt) ≡ false
one_closing was_lit lit was_burnt ended burnt h =
    let out = not-true lit (and_parts was_lit (not lit) (and_parts (was_lit && not lit) (not was_burnt) h).0).1 in
    and_left (ended && lit) (not burnt) (and_right ended lit out)

length_of_three : {X : Type 0} (xs ys zs : List X) → length xs + length zs ≤ 1 → length ys ≤ 1 → length (xs ++ ys ++ zs) ≤ 2
length_of_three xs ys zs h k = simp length-append (omega arith)

two_a_line : (l : Content) (earlier : List Content) → length (moves_at l earlier) ≤ 2
two_a_line l earlier = length_of_three (closing_by_m5 l earlier) (made l earlier) (closing_by_end l earlier)
    (one_of_two _ _ _ _ (one_closing (is_lit earlier) (is_lit (l ∷ earlier)) (has_burnt earlier) (is_ended (l ∷ earlier)) (has_burnt (l ∷ earlier))))
    (at_most_one _ _)

no_longer : {X : Type 0} (ended : Bool) (xs : List X) → length (cond ended [] xs) ≤ length xs
no_longer true xs = omega arith
no_longer false xs = omega arith

few_from : (earlier lines : List Content) → length (moves_from earlier lines) ≤ 2 * length lines
few_from earlier [] = omega arith
few_from earlier (l ∷ lines) =
    let later = moves_from (l ∷ earlier) lines in
    let rest = cond (is_ended (l ∷ earlier)) [] later in
    omega (arith, length-append (moves_at l earlier) rest, two_a_line l earlier, no_longer (is_ended (l ∷ earlier)) later, few_from (l ∷ earlier) lines)

at_most_one_line : (part : List ℕ) → length (lines_of_parts (part ∷ [])) ≤ 1
at_most_one_line part = no_longer (length part == 0) (part ∷ [])

-- one byte more, in the first line or before its end
one_byte_more : (b : ℕ) (parts : List (List ℕ)) → length (lines_of_parts (onto_first b parts)) ≤ length (lines_of_parts parts) + 1
one_byte_more b [] = omega arith
one_byte_more b (part ∷ []) = omega (arith, at_most_one_line (b ∷ part))
one_byte_more b (part ∷ next ∷ parts) = omega arith

one_line_more : (parts : List (List ℕ)) → length (lines_of_parts ([] ∷ parts)) ≤ length (lines_of_parts parts) + 1
one_line_more [] = omega arith
one_line_more (part ∷ parts) = omega arith

lines_in_bytes : (p : ℕ → Bool) (bytes : List ℕ) → length (lines_of_parts (slice_split p bytes)) ≤ length bytes
lines_in_bytes p [] = omega arith
lines_in_bytes p (b ∷ bytes) = by_byte (p b) (slice_split p bytes) (lines_in_bytes p bytes)
  where
    by_byte : (ends : Bool) (parts : List (List ℕ)) → length (lines_of_parts parts) ≤ length bytes → length (lines_of_parts (cond ends ([] ∷ parts) (onto_first b parts))) ≤ length (b ∷ bytes)
    by_byte true parts h = omega (arith, one_line_more parts)
    by_byte false parts h = omega (arith, one_byte_more b parts)

pub few : (bytes : List ℕ) → length bytes ≤ 2 ^ 26 → length (moves_of bytes) ≤ most_moves
unfolding moves_of
few bytes h =
    let lines = lines_of bytes in
    omega (arith, h, few_from [] (map content_or_empty lines), length-map lines content_or_empty, lines_in_bytes (λ b. b == 10) bytes)
