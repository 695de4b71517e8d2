-- The half-edges of trails.
use Rattle.std.proofs.Common.{List, [], ◌∷◌}
use Rattle.std.specs.List.{AllByRecursion}
use Rattle.nest_base.specs.declared.places.Edge.{Edge}
use Rattle.nest_base.specs.Plane.{HalfEdge}
use Rattle.plate_sides.specs.HalfEdges.{IsHalfEdge}
use Rattle.plate_sides.specs.Cover.{IsTrail}

-- each is a half-edge of one of the edges
pub trail_sides : (edges : List Edge) (trail : List HalfEdge) → IsTrail edges trail → AllByRecursion (IsHalfEdge edges) trail
trail_sides edges [] h = absurd h
trail_sides edges (s ∷ []) h = (h, tt)
trail_sides edges (s ∷ t ∷ rest) h = (h.0, trail_sides edges (t ∷ rest) h.2)
