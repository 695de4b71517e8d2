-- Each move of a code without a fault is such as code gives, for itself.
use Rattle.std.proofs.Common.{◌≡◌, ℕ, ◌+◌, ◌≤◌, Bool, true, false, cond, List, [], ◌∷◌, ◌++◌, length, map, ℤ, pos, negsuc, Option, Some, None, refl, sym, arith}
use Rattle.std.specs.Prelude.{◌&&◌, not, unsigned_abs, unwrap_or, All}
use Rattle.std.specs.List.{AllByRecursion, list_all}
use Rattle.std.specs.Option.{option_map_or}
use Rattle.std.proofs.lemmas.Bool.{and_parts, leb-true, not-true, both_ways}
use Rattle.std.proofs.lemmas.Int.{ints}
use Rattle.std.proofs.lemmas.List.Elements.{All-from_recursion}
use Rattle.nest_base.specs.declared.places.Point.{Point}
use Rattle.nest_base.specs.Order.{is_place}
use Rattle.nest_base.specs.Range.{IsNear, IsWithin}
use Rattle.nest_base.specs.Lines.{lines_of}
use Rattle.nest_base.proofs.Points.{Decides-is_place}
use Rattle.micron_decimals.proofs.Bytes.{all-append}
use Rattle.code_moves.specs.declared.faults.CodeFault.{CodeFault}
use Rattle.code_moves.specs.declared.faults.CodeFault.TheVariants.{BadLine, UnknownWord, TooFar}
use Rattle.code_moves.specs.declared.faults.CodeError.{CodeError}
use Rattle.code_moves.specs.Words.{Content, Words, content_of, words_in, axis_in, is_known}
use Rattle.code_moves.specs.History.{is_lit, is_moving, has_burnt, is_ended, place_after}
use Rattle.code_moves.specs.Meaning.{one_if, closing_move, closing_by_m5, made, closing_by_end, moves_at, moves_from, moves_of, content_or_empty, code_range, is_near, is_within, is_lawful, line_fault, or_fault, refusal_from, code_refusal_of}
use Rattle.ngc_meaning.specs.CodeMoves.{IsCodeMove, origin}

-- a coordinate that passes the test of a reader lies within the range
near_by_size : (n : ℕ) (z : ℤ) → unsigned_abs z ≤ n → IsNear n z
near_by_size n (pos k) h = (omega (arith, ints, h), omega (arith, ints, h))
near_by_size n (negsuc k) h = (omega (arith, ints, h), omega (arith, ints, h))

near : (z : ℤ) → is_near z ≡ true → IsNear code_range z
near z h = near_by_size code_range z (leb-true (unsigned_abs z) code_range h)

-- a line without a fault leads to a place within the range
within_by_tests : (lawful known within : Bool) → cond (not lawful) (Some BadLine) (cond (not known) (Some UnknownWord) (cond (not within) (Some TooFar) None)) ≡ None → within ≡ true
within_by_tests false known within h = cc
within_by_tests true false within h = cc
within_by_tests true true false h = cc
within_by_tests true true true h = refl

leads_within : (l : Content) (earlier : List Content) → line_fault (Some l) earlier ≡ None → IsWithin code_range (place_after (l ∷ earlier))
leads_within l earlier h =
    let place = place_after (l ∷ earlier) in
    let near_x = option_map_or is_near (axis_in 88 (words_in l)) true in
    let near_y = option_map_or is_near (axis_in 89 (words_in l)) true in
    let within = within_by_tests (is_lawful l earlier) (list_all is_known (words_in l)) (is_within l earlier) h in
    let parts = and_parts (near_x && near_y && is_near place.x) (is_near place.y) within in
    record { x = near place.x (and_parts (near_x && near_y) (is_near place.x) parts.0).1; y = near place.y parts.1 }

-- a lit, fresh move on the spot
closing_is_such : (p : Point) (n : ℕ) → IsWithin code_range p → IsCodeMove (closing_move p n)
closing_is_such p n h = record { fresh_is_lit = λ _. refl; spot_is_lit = λ _. refl; spot_is_fresh = λ _. refl; from_within = h; to_within = h }

-- a move to another place
made_is_such : (p q : Point) (lit was_burnt : Bool) (n : ℕ) → not (is_place q p) ≡ true → IsWithin code_range p → IsWithin code_range q →
    IsCodeMove (record { from = p; to = q; lit = lit; fresh = lit && not was_burnt; line = n })
made_is_such p q lit was_burnt n moves h k = record {
  fresh_is_lit = λ fresh. (and_parts lit (not was_burnt) fresh).0;
  spot_is_lit = λ spot. absurd (elsewhere spot);
  spot_is_fresh = λ spot. absurd (elsewhere spot);
  from_within = h;
  to_within = k;
}
  where
    elsewhere : p ≡ q → ⊥
    elsewhere spot = both_ways (is_place q p) (not-true (is_place q p) moves) ((Decides-is_place q p).1 (sym spot))

one_is_such : {X : Type 0} (P : X → Type 0) (test : Bool) (x : X) → (test ≡ true → P x) → AllByRecursion P (one_if test x)
one_is_such P true x h = (h refl, tt)
one_is_such P false x h = tt

each_at : (l : Content) (earlier : List Content) → IsWithin code_range (place_after earlier) → IsWithin code_range (place_after (l ∷ earlier)) → AllByRecursion IsCodeMove (moves_at l earlier)
each_at l earlier h k =
    let p = place_after earlier in
    let q = place_after (l ∷ earlier) in
    let n = length earlier + 1 in
    all-append IsCodeMove (closing_by_m5 l earlier ++ made l earlier) (closing_by_end l earlier)
    (all-append IsCodeMove (closing_by_m5 l earlier) (made l earlier)
    (one_is_such IsCodeMove _ (closing_move p n) (λ _. closing_is_such p n h))
    (one_is_such IsCodeMove (is_moving (l ∷ earlier)) _ (λ moves. made_is_such p q (is_lit (l ∷ earlier)) (has_burnt earlier) n moves h k)))
    (one_is_such IsCodeMove _ (closing_move q n) (λ _. closing_is_such q n k))

-- of lines without a fault the first has none, and the later ones have none
no_fault : (fault : Option CodeFault) (n : ℕ) (later : Option CodeError) → or_fault fault n later ≡ None → (fault ≡ None) × (later ≡ None)
no_fault (Some fault) n later h = absurd (cc)
no_fault None n later h = (refl, h)

-- so the first one is read
is_read : (o : Option Content) (earlier : List Content) → line_fault o earlier ≡ None → line_fault (Some (unwrap_or o (Words []))) earlier ≡ None
is_read (Some l) earlier h = h
is_read None earlier h = cc

-- the later ones count unless the first one ends the program
each_later : {X : Type 0} (P : X → Type 0) (ended : Bool) (later : Option CodeError) (xs : List X) → cond ended None later ≡ None → (later ≡ None → AllByRecursion P xs) → AllByRecursion P (cond ended [] xs)
each_later P true later xs h k = tt
each_later P false later xs h k = k h

each_from : (earlier : List Content) (lines : List (List ℕ)) → IsWithin code_range (place_after earlier) → refusal_from earlier lines ≡ None → AllByRecursion IsCodeMove (moves_from earlier (map content_or_empty lines))
each_from earlier [] h accepted = tt
each_from earlier (line ∷ lines) h accepted =
    let l = content_or_empty line in
    let later = refusal_from (l ∷ earlier) lines in
    let rest = moves_from (l ∷ earlier) (map content_or_empty lines) in
    let ended = is_ended (l ∷ earlier) in
    let none = no_fault (line_fault (content_of line) earlier) (length earlier + 1) (cond ended None later) accepted in
    let within = leads_within l earlier (is_read (content_of line) earlier none.0) in
    all-append IsCodeMove (moves_at l earlier) (cond ended [] rest) (each_at l earlier h within)
    (each_later IsCodeMove ended later rest none.1 (λ more. each_from (l ∷ earlier) lines within more))

origin_within : IsWithin code_range origin
origin_within = record { x = (omega (arith, ints), omega (arith, ints)); y = (omega (arith, ints), omega (arith, ints)) }

pub each : (bytes : List ℕ) → code_refusal_of bytes ≡ None → All IsCodeMove (moves_of bytes)
unfolding moves_of code_refusal_of
each bytes accepted =
    let lines = lines_of bytes in
    All-from_recursion IsCodeMove (moves_from [] (map content_or_empty lines)) (each_from [] lines origin_within accepted)
