-- The pieces between neighbours of a list of places.
use Rattle.std.specs.Prelude.{List, [], ◌∷◌}
use Rattle.nest_base.specs.declared.places.Point.{Point}
use Rattle.nest_base.specs.declared.places.Edge.{Edge}

-- from each place to the next
abbrev pub pieces_between : List Point → List Edge
pieces_between [] = []
pieces_between (p ∷ []) = []
pieces_between (p ∷ q ∷ places) = record { low = p; high = q } ∷ pieces_between (q ∷ places)
