-- Half-edges by number.
use Rattle.std.specs.Prelude.{◌≡◌, ℕ, List, [], ◌∷◌, slice_get, Some}
use Rattle.nest_base.specs.declared.places.Edge.{Edge}
use Rattle.nest_base.specs.Plane.{HalfEdge, twin}
use Rattle.plate_sides.specs.HalfEdges.{forth}

-- two for each edge: from its low end to its high one, and back
abbrev pub half_edges_of : List Edge → List HalfEdge
half_edges_of [] = []
half_edges_of (e ∷ edges) = forth e ∷ twin (forth e) ∷ half_edges_of edges

-- h is the half-edge with this number
abbrev pub IsSide : List Edge → ℕ → HalfEdge → Type 0
IsSide edges s h = slice_get (half_edges_of edges) s ≡ Some h
