-- Routes from place to place.
use Rattle.std.specs.Prelude.{List, [], ◌∷◌}
use Rattle.nest_base.specs.declared.places.Point.{Point}
use Rattle.nest_base.specs.Plane.{HalfEdge}

-- the legs of a route through these places, each from a place to the next
abbrev pub legs : List Point → List HalfEdge
legs [] = []
legs (p ∷ []) = []
legs (p ∷ q ∷ places) = record { from = p; to = q } ∷ legs (q ∷ places)
