-- The square with the corners (0, 0) and (10, 10) millimetres, as a worked example.
use Rattle.std.specs.Prelude.{ℕ, Bool, true, false, List, [], ◌∷◌, pos, codes}
use Rattle.nest_base.specs.declared.places.Point.{Point}
use Rattle.code_moves.specs.declared.moves.Move.{Move}

-- a place, in micrometres
abbrev pub point_at : ℕ → ℕ → Point
point_at x y = record { x = pos x; y = pos y }

-- its corners
abbrev pub south_west : Point
south_west = point_at 0 0

abbrev pub south_east : Point
south_east = point_at 10000 0

abbrev pub north_east : Point
north_east = point_at 10000 10000

abbrev pub north_west : Point
north_west = point_at 0 10000

-- the one chain, from the north-west corner round to it
abbrev pub square_chain : List Point
square_chain = north_west ∷ north_east ∷ south_east ∷ south_west ∷ north_west ∷ []

-- the code that is written for it
abbrev pub square_code : List ℕ
square_code =
    codes "G21 G90\nF1000 S1\nG0 X0.000 Y10.000\nM3\nG1 X10.000 Y10.000\nG1 X10.000 Y0.000\nG1 X0.000 Y0.000\nG1 X0.000 Y10.000\nM5\nM2\n"

-- a move by these ends, lit or not, fresh or not, with the number of its line
abbrev pub move : Point → Point → Bool → Bool → ℕ → Move
move p q lit fresh line = record { from = p; to = q; lit = lit; fresh = fresh; line = line }

-- what this code means: unlit to the first corner, and then the four sides
abbrev pub square_moves : List Move
square_moves =
    move south_west north_west false false 3 ∷ move north_west north_east true true 5 ∷ move north_east south_east true false 6 ∷
    move south_east south_west true false 7 ∷ move south_west north_west true false 8 ∷ []

-- the code of the same chain behind a lead-in that begins at its first vertex
abbrev pub led_in_code : List ℕ
led_in_code =
    codes "G21 G90\nF1000 S1\nG0 X0.000 Y10.000\nM3\nG1 X0.000 Y10.000\nG1 X10.000 Y10.000\nG1 X10.000 Y0.000\nG1 X0.000 Y0.000\nG1 X0.000 Y10.000\nM5\nM2\n"

-- the same moves, each a line later but for the first
abbrev pub led_in_moves : List Move
led_in_moves =
    move south_west north_west false false 3 ∷ move north_west north_east true true 6 ∷ move north_east south_east true false 7 ∷
    move south_east south_west true false 8 ∷ move south_west north_west true false 9 ∷ []
