-- Components: the classes of edges that shared vertices join. A component is named by its mark vertex.
use Rattle.std.specs.Prelude.{◌≡◌, ◌⊎◌, List}
use Rattle.nest_base.specs.declared.places.Point.{Point}
use Rattle.nest_base.specs.declared.places.Edge.{Edge}
use Rattle.nest_base.specs.Plane.{HalfEdge}
use Rattle.nest_base.specs.Order.{IsMarkedBefore}
use Rattle.nest_base.specs.Walks.{Walk}
use Rattle.nest_base.specs.Selection.{EnumeratesBy}
use Rattle.plate_sides.specs.HalfEdges.{IsHalfEdge, IsVertex}

-- an edge has the ends u and v
abbrev pub IsJoinedTo : List Edge → Point → Point → Type 0
IsJoinedTo edges u v = IsHalfEdge edges (record { from = u; to = v })

-- edges lead from u to v
abbrev pub SameComponent : List Edge → Point → Point → Type 0
SameComponent edges u v = Walk (IsJoinedTo edges) v u

-- the mark vertex of a component comes first of all its vertices
pub record IsMark (edges : List Edge) (mark : Point) : Type 0 where
  pub vertex : IsVertex edges mark
  pub first : (v : Point) → SameComponent edges v mark → (v ≡ mark) ⊎ IsMarkedBefore mark v

-- h belongs to the component with this mark vertex
abbrev pub IsIn : List Edge → Point → HalfEdge → Type 0
IsIn edges mark h = IsHalfEdge edges h × SameComponent edges h.from mark

-- the mark vertices of all components, in the order by which components are numbered
abbrev pub AreMarks : List Edge → List Point → Type 0
AreMarks edges marks = EnumeratesBy IsMarkedBefore (IsMark edges) marks
