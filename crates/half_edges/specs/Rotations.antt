-- The half-edges round their vertices.
use Rattle.std.specs.Prelude.{◌≡◌, ◌⊎◌, ℕ, List, AllPairs, Contains}
use Rattle.nest_base.specs.declared.places.Point.{Point}
use Rattle.nest_base.specs.declared.places.Edge.{Edge}
use Rattle.nest_base.specs.Plane.{HalfEdge, heading}
use Rattle.nest_base.specs.Angles.{IsBeforeFromWest}
use Rattle.nest_base.specs.Order.{IsMarkedBefore}
use Rattle.nest_base.specs.Selection.{EnumeratesBy}
use Rattle.plate_sides.specs.HalfEdges.{Leaves}
use Rattle.half_edges.specs.Numbers.{IsSide}

-- the first is met before the second when one turns counterclockwise from west
abbrev pub IsBeforeRound : HalfEdge → HalfEdge → Type 0
IsBeforeRound g h = IsBeforeFromWest (heading g) (heading h)

-- the half-edges that leave v, counterclockwise from west
abbrev pub IsRotation : List Edge → Point → List HalfEdge → Type 0
IsRotation edges v rotation = EnumeratesBy IsBeforeRound (Leaves edges v) rotation

-- the first leaves an earlier vertex in the order of mark vertices than the second, or the same one before it
abbrev pub IsBeforeAllRound : HalfEdge → HalfEdge → Type 0
IsBeforeAllRound g h = IsMarkedBefore g.from h.from ⊎ ((g.from ≡ h.from) × IsBeforeRound g h)

-- the numbers of all half-edges, vertex by vertex, and round each counterclockwise from west
pub record AreAllRound (edges : List Edge) (sides : List ℕ) : Type 0 where
  pub each : (s : ℕ) → Contains sides s → (h : HalfEdge) × IsSide edges s h
  pub whole : (s : ℕ) (h : HalfEdge) → IsSide edges s h → Contains sides s
  pub in_order : AllPairs (λ s t. (g h : HalfEdge) → IsSide edges s g → IsSide edges t h → IsBeforeAllRound g h) sides
