-- Orders of burning in which no edge is detached before it burns. An order names each edge by one of its half-edges.
use Rattle.std.specs.Prelude.{◌≡◌, List, ◌∷◌, ◌++◌}
use Rattle.nest_base.specs.declared.places.Point.{Point}
use Rattle.nest_base.specs.declared.places.Edge.{Edge}
use Rattle.nest_base.specs.Plane.{HalfEdge, twin}
use Rattle.nest_base.specs.Walks.{Walk}
use Rattle.plate_sides.specs.HalfEdges.{IsHalfEdge}
use Rattle.plate_sides.specs.Links.{IsAlong, IsOuterSide}
use Rattle.plate_sides.specs.Reach.{Reaches, HasEdge}

-- just before each edge of the order burns, both its half-edges reach Outer
abbrev pub IsOrderEnclosing : List Edge → List HalfEdge → Type 0
IsOrderEnclosing edges order =
    (burnt : List HalfEdge) (s : HalfEdge) (later : List HalfEdge) → order ≡ burnt ++ s ∷ later →
    Reaches edges burnt s × Reaches edges burnt (twin s)

-- the links inside one component, where only the edges of the list are crossed
pub data IsLinkedThrough (edges : List Edge) (over : List HalfEdge) : HalfEdge → HalfEdge → Type 0 where
  along : {s t : HalfEdge} → IsAlong edges s t → IsLinkedThrough edges over s t
  across : {s : HalfEdge} → IsHalfEdge edges s → HasEdge over s → IsLinkedThrough edges over s (twin s)

-- an outer half-edge of the component is joined to s
abbrev pub ReachesEdgeOf : List Edge → Point → List HalfEdge → HalfEdge → Type 0
ReachesEdgeOf edges mark over s = (o : HalfEdge) × IsOuterSide edges mark o × Walk (IsLinkedThrough edges over) o s

-- the same within one component: this edge and the later ones join both its half-edges to an outer half-edge
abbrev pub IsEnclosingWithin : List Edge → Point → List HalfEdge → Type 0
IsEnclosingWithin edges mark order =
    (burnt : List HalfEdge) (s : HalfEdge) (later : List HalfEdge) → order ≡ burnt ++ s ∷ later →
    ReachesEdgeOf edges mark (s ∷ later) s × ReachesEdgeOf edges mark (s ∷ later) (twin s)
