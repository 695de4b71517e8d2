-- The half-edges of a drawing, and their order round a vertex.
use Rattle.std.specs.Prelude.{◌≡◌, ◌⊎◌, List, Contains}
use Rattle.nest_base.specs.declared.places.Point.{Point}
use Rattle.nest_base.specs.declared.places.Edge.{Edge}
use Rattle.nest_base.specs.Plane.{HalfEdge, twin, heading}
use Rattle.nest_base.specs.Turn.{IsInsideAngle}

-- the half-edge from the low end of e to the high one
abbrev pub forth : Edge → HalfEdge
forth e = record { from = e.low; to = e.high }

-- one of the two half-edges of e
abbrev pub IsHalfEdgeOf : Edge → HalfEdge → Type 0
IsHalfEdgeOf e h = (h ≡ forth e) ⊎ (h ≡ twin (forth e))

-- a half-edge of one of the edges
abbrev pub IsHalfEdge : List Edge → HalfEdge → Type 0
IsHalfEdge edges h = (e : Edge) × Contains edges e × IsHalfEdgeOf e h

abbrev pub Leaves : List Edge → Point → HalfEdge → Type 0
Leaves edges v h = IsHalfEdge edges h × (h.from ≡ v)

-- an end of an edge
abbrev pub IsVertex : List Edge → Point → Type 0
IsVertex edges v = (h : HalfEdge) × Leaves edges v h

-- t is the next half-edge counterclockwise after s round their vertex
pub record IsNextCcw (edges : List Edge) (s t : HalfEdge) : Type 0 where
  pub one : IsHalfEdge edges s
  pub other : Leaves edges s.from t
  pub none_between : (d : HalfEdge) → Leaves edges s.from d → IsInsideAngle (heading s) (heading d) (heading t) → ⊥
  pub same_if_alone : t ≡ s → (d : HalfEdge) → Leaves edges s.from d → d ≡ s

abbrev pub IsNextCw : List Edge → HalfEdge → HalfEdge → Type 0
IsNextCw edges s t = IsNextCcw edges t s
