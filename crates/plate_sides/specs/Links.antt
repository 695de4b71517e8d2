-- The links within a face, and between a face and the outside.
use Rattle.std.specs.Prelude.{◌≡◌, List}
use Rattle.nest_base.specs.declared.places.Point.{Point}
use Rattle.nest_base.specs.declared.places.Edge.{Edge}
use Rattle.nest_base.specs.Plane.{HalfEdge, twin, heading}
use Rattle.nest_base.specs.Turn.{IsInsideAngle, west}
use Rattle.nest_base.specs.Sight.{IsMet, IsNearer}
use Rattle.nest_base.specs.Walks.{Walk}
use Rattle.plate_sides.specs.HalfEdges.{IsHalfEdge, Leaves, IsNextCw}
use Rattle.plate_sides.specs.Components.{IsMark}

-- what links join: the half-edges, and one object `Outer` beside them
pub data Node : Type 0 where
  Outer : Node
  At : HalfEdge → Node

-- from u → v the face goes on along v → w, the next clockwise after v → u
abbrev pub IsAlong : List Edge → HalfEdge → HalfEdge → Type 0
IsAlong edges s t = IsHalfEdge edges s × IsNextCw edges (twin s) t

-- the half-edge that goes down of a met edge to which no other met edge is nearer
pub record IsSeen (edges : List Edge) (p : Point) (d : HalfEdge) : Type 0 where
  pub is_side : IsHalfEdge edges d
  pub is_met : IsMet p d
  pub none_nearer : (e : HalfEdge) → IsHalfEdge edges e → IsMet p e → IsNearer p e d → ⊥

-- no edge is met from p
abbrev pub SeesNone : List Edge → Point → Type 0
SeesNone edges p = (d : HalfEdge) → IsHalfEdge edges d → IsMet p d → ⊥

-- what is seen from p
abbrev pub Sees : List Edge → Point → Node → Type 0
Sees edges p Outer = SeesNone edges p
Sees edges p (At d) = IsSeen edges p d

-- m leaves the mark vertex of its component, and no half-edge there is met between it and west
pub record IsMarkSide (edges : List Edge) (m : HalfEdge) : Type 0 where
  pub is_side : IsHalfEdge edges m
  pub mark : IsMark edges m.from
  pub last : (d : HalfEdge) → Leaves edges m.from d → IsInsideAngle (heading m) (heading d) west → ⊥

-- the two links within a face
pub data IsLinked (edges : List Edge) : Node → Node → Type 0 where
  along : {s t : HalfEdge} → IsAlong edges s t → IsLinked edges (At s) (At t)
  sight : {m : HalfEdge} {n : Node} → IsMarkSide edges m → Sees edges m.from n → IsLinked edges (At m) n

-- s is joined to the mark side at this mark vertex by Along alone
abbrev pub IsOuterSide : List Edge → Point → HalfEdge → Type 0
IsOuterSide edges mark s = (m : HalfEdge) × IsMarkSide edges m × (m.from ≡ mark) × Walk (IsAlong edges) m s

abbrev pub IsOuterVertex : List Edge → Point → Point → Type 0
IsOuterVertex edges mark v = (s : HalfEdge) × IsOuterSide edges mark s × (s.from ≡ v)
