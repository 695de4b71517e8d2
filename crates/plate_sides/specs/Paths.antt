-- The places along trails.
use Rattle.std.specs.Prelude.{List, [], ◌∷◌, Option, Some, None, map}
use Rattle.nest_base.specs.declared.places.Point.{Point}
use Rattle.nest_base.specs.Plane.{HalfEdge}

-- where a trail begins, and where each of its half-edges leads
abbrev pub path_of : List HalfEdge → List Point
path_of [] = []
path_of (s ∷ rest) = s.from ∷ map (λ (h : HalfEdge). h.to) (s ∷ rest)

-- the same behind the place where a lead-in begins, if there is one
abbrev pub path_from : Option Point → List HalfEdge → List Point
path_from None trail = path_of trail
path_from (Some q) trail = q ∷ path_of trail

-- trail by trail
abbrev pub paths_of : List (Option Point) → List (List HalfEdge) → List (List Point)
paths_of [] trails = []
paths_of (lead ∷ leads) [] = []
paths_of (lead ∷ leads) (trail ∷ trails) = path_from lead trail ∷ paths_of leads trails
