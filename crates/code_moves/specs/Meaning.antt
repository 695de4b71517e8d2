-- The meaning of a code text: its moves, and why it is refused.
use Rattle.std.specs.Prelude.{ℕ, ◌+◌, Bool, true, false, ◌&&◌, ◌||◌, not, nat_le, if◌then◌else◌, List, [], ◌∷◌, ◌++◌, length, map, ℤ, unsigned_abs, Option, Some, None, unwrap_or}
use Rattle.std.specs.List.{list_all, list_any}
use Rattle.std.specs.Option.{option_map_or}
use Rattle.nest_base.specs.declared.places.Point.{Point}
use Rattle.nest_base.specs.Lines.{lines_of}
use Rattle.code_moves.specs.declared.moves.Move.{Move}
use Rattle.code_moves.specs.declared.faults.CodeFault.{CodeFault}
use Rattle.code_moves.specs.declared.faults.CodeFault.TheVariants.{BadLine, UnknownWord, TooFar}
use Rattle.code_moves.specs.declared.faults.CodeError.{CodeError}
use Rattle.code_moves.specs.declared.faults.CodeError.TheVariants.{BadLine as BadLineAt, UnknownWord as UnknownWordAt, TooFar as TooFarAt, NoEnd}
use Rattle.code_moves.specs.Words.{Content, Mark, Words, content_of, words_in, is_axis, is_known, are_lawful, axis_in}
use Rattle.code_moves.specs.History.{has_begun, is_marked, has_motion, is_lit, place_after, is_moving, has_burnt, is_ended}

-- x where the test holds, else nothing
abbrev pub one_if : {X : Type 0} → Bool → X → List X
one_if true x = x ∷ []
one_if false x = []

-- a run of lit lines that made no move ends: one lit, fresh move on the spot
abbrev pub closing_move : Point → ℕ → Move
closing_move p line = record { from = p; to = p; lit = true; fresh = true; line = line }

-- the line l, behind the earlier ones, ends such a run by M5
abbrev pub closing_by_m5 : Content → List Content → List Move
closing_by_m5 l earlier = one_if (is_lit earlier && not (is_lit (l ∷ earlier)) && not (has_burnt earlier)) (closing_move (place_after earlier) (length earlier + 1))

-- the line l moves where the place changes: lit or not, and fresh where it is the first of its run
abbrev pub made : Content → List Content → List Move
made l earlier = one_if (is_moving (l ∷ earlier)) (record { from = place_after earlier; to = place_after (l ∷ earlier); lit = is_lit (l ∷ earlier); fresh = is_lit (l ∷ earlier) && not (has_burnt earlier); line = length earlier + 1 })

-- the line l ends such a run by ending the program
abbrev pub closing_by_end : Content → List Content → List Move
closing_by_end l earlier = one_if (is_ended (l ∷ earlier) && is_lit (l ∷ earlier) && not (has_burnt (l ∷ earlier))) (closing_move (place_after (l ∷ earlier)) (length earlier + 1))

-- the moves of one line behind the earlier ones
abbrev pub moves_at : Content → List Content → List Move
moves_at l earlier = closing_by_m5 l earlier ++ made l earlier ++ closing_by_end l earlier

-- the moves of these lines behind the earlier ones, up to the end of the program
abbrev pub moves_from : List Content → List Content → List Move
moves_from earlier [] = []
moves_from earlier (l ∷ lines) = moves_at l earlier ++ (if is_ended (l ∷ earlier) then [] else moves_from (l ∷ earlier) lines)

-- a line that can't be read counts as empty here, since it's refused
abbrev pub content_or_empty : List ℕ → Content
content_or_empty line = unwrap_or (content_of line) (Words [])

-- the moves of a code text, in order
unfoldable pub moves_of : List ℕ → List Move
moves_of bytes = moves_from [] (map content_or_empty (lines_of bytes))

-- places in code lie within plus and minus this many micrometres
abbrev pub code_range : ℕ
code_range = 100010000

-- a coordinate lies so
abbrev pub is_near : ℤ → Bool
is_near n = nat_le (unsigned_abs n) code_range

-- `%` alone is the first line that isn't empty, or the first such was it; X or Y follow a G0 or G1
abbrev pub is_lawful : Content → List Content → Bool
is_lawful Mark earlier = not (has_begun earlier) || is_marked earlier
is_lawful (Words ws) earlier = are_lawful ws && (not (list_any is_axis ws) || has_motion (Words ws ∷ earlier))

-- the numbers of X and Y, and the place that is reached, lie within the range
abbrev pub is_within : Content → List Content → Bool
is_within l earlier =
    option_map_or is_near (axis_in 88 (words_in l)) true && option_map_or is_near (axis_in 89 (words_in l)) true
    && is_near ((place_after (l ∷ earlier)).x) && is_near ((place_after (l ∷ earlier)).y)

-- the fault of a line behind the earlier ones
abbrev pub line_fault : Option Content → List Content → Option CodeFault
line_fault None earlier = Some BadLine
line_fault (Some l) earlier =
    if not (is_lawful l earlier) then Some BadLine else
    (if not (list_all is_known (words_in l)) then Some UnknownWord else
    (if not (is_within l earlier) then Some TooFar else None))

-- a fault, with the number of its line
abbrev pub error_at : CodeFault → ℕ → CodeError
error_at BadLine n = BadLineAt n
error_at UnknownWord n = UnknownWordAt n
error_at TooFar n = TooFarAt n

-- the fault of line n where it has one, else what comes later
abbrev pub or_fault : Option CodeFault → ℕ → Option CodeError → Option CodeError
or_fault (Some f) n later = Some (error_at f n)
or_fault None n later = later

-- the first fault of these lines behind the earlier ones, before the end of the program
abbrev pub refusal_from : List Content → List (List ℕ) → Option CodeError
refusal_from earlier [] = Some (NoEnd (length earlier + 1))
refusal_from earlier (line ∷ lines) =
    or_fault (line_fault (content_of line) earlier) (length earlier + 1)
    (if is_ended (content_or_empty line ∷ earlier) then None else refusal_from (content_or_empty line ∷ earlier) lines)

-- why a code text is refused, or none
unfoldable pub code_refusal_of : List ℕ → Option CodeError
code_refusal_of bytes = refusal_from [] (lines_of bytes)
