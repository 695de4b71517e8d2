-- What the lines so far mean: each of these looks back over them. The latest line comes first.
use Rattle.std.specs.Prelude.{Bool, true, false, ◌&&◌, ◌||◌, not, if◌then◌else◌, List, [], ◌∷◌, find, ℤ, pos, ◌+ℤ◌, Option, Some, None}
use Rattle.std.specs.List.{list_any}
use Rattle.std.specs.Option.{option_map_or}
use Rattle.nest_base.specs.declared.places.Point.{Point}
use Rattle.nest_base.specs.Order.{is_place}
use Rattle.code_moves.specs.Words.{Word, Content, Mark, Words, words_in, is_motion, is_distance, is_torch, is_end, is_g, is_m, axis_in}

-- the line has no word and no `%`
abbrev pub is_empty : Content → Bool
is_empty Mark = false
is_empty (Words []) = true
is_empty (Words (w ∷ ws)) = false

-- the line is `%` alone
abbrev pub is_mark : Content → Bool
is_mark Mark = true
is_mark (Words ws) = false

-- a line that isn't empty has come
abbrev pub has_begun : List Content → Bool
has_begun lines = list_any (λ l. not (is_empty l)) lines

-- the first line that isn't empty is `%` alone
abbrev pub is_marked : List Content → Bool
is_marked [] = false
is_marked (l ∷ earlier) = if has_begun earlier then is_marked earlier else is_mark l

-- a G0 or G1 has come
abbrev pub has_motion : List Content → Bool
has_motion lines = list_any (λ l. list_any is_motion (words_in l)) lines

-- of the words M3 and M5 there is a last one, and it is M3
abbrev pub is_lit : List Content → Bool
is_lit [] = false
is_lit (l ∷ earlier) = option_map_or (is_m (3 ∷ [])) (find is_torch (words_in l)) (is_lit earlier)

-- of the words G90 and G91 there is no last one, or it is G90
abbrev pub is_absolute : List Content → Bool
is_absolute [] = true
is_absolute (l ∷ earlier) = option_map_or (is_g (90 ∷ [])) (find is_distance (words_in l)) (is_absolute earlier)

-- one coordinate, after a line with this number on its axis or with none
abbrev pub axis_after : Bool → ℤ → Option ℤ → ℤ
axis_after absolute old None = old
axis_after true old (Some n) = n
axis_after false old (Some n) = old +ℤ n

-- where words lead from p, in absolute or relative places
abbrev pub target : Bool → List Word → Point → Point
target absolute ws p = record { x = axis_after absolute p.x (axis_in 88 ws); y = axis_after absolute p.y (axis_in 89 ws) }

-- the place after the lines
abbrev pub place_after : List Content → Point
place_after [] = record { x = pos 0; y = pos 0 }
place_after (l ∷ earlier) = target (is_absolute (l ∷ earlier)) (words_in l) (place_after earlier)

-- the latest line makes a move
abbrev pub is_moving : List Content → Bool
is_moving [] = false
is_moving (l ∷ earlier) = not (is_place (place_after (l ∷ earlier)) (place_after earlier))

-- a line of the run of lit lines up to now made a move
abbrev pub has_burnt : List Content → Bool
has_burnt [] = false
has_burnt (l ∷ earlier) = is_lit (l ∷ earlier) && (is_moving (l ∷ earlier) || has_burnt earlier)

-- the latest line ends the program: M2, M30, or `%` alone where a line that isn't empty has come
abbrev pub is_ended : List Content → Bool
is_ended [] = false
is_ended (Mark ∷ earlier) = has_begun earlier
is_ended (Words ws ∷ earlier) = list_any is_end ws
