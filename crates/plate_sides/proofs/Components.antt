-- Half-edges of one component.
use Rattle.std.proofs.Common.{inl, inr, List, sym, subst}
use Rattle.nest_base.specs.declared.places.Point.{Point}
use Rattle.nest_base.specs.declared.places.Edge.{Edge}
use Rattle.nest_base.specs.Plane.{HalfEdge, twin}
use Rattle.nest_base.specs.Walks.{on}
use Rattle.plate_sides.specs.HalfEdges.{IsHalfEdgeOf}
use Rattle.plate_sides.specs.Components.{IsIn}
use Rattle.plate_sides.proofs.HalfEdges.{same_or_twin, twin_is_half_edge}

-- an edge joins its two ends
pub twin_is_in : (edges : List Edge) (mark : Point) (h : HalfEdge) → IsIn edges mark h → IsIn edges mark (twin h)
twin_is_in edges mark h (is, same) = (twin_is_half_edge edges h is, on (twin_is_half_edge edges h is) same)

-- half-edges of one edge lie in one component
pub edge_is_in : (edges : List Edge) (mark : Point) (e : Edge) (h k : HalfEdge) → IsHalfEdgeOf e h → IsHalfEdgeOf e k → IsIn edges mark h → IsIn edges mark k
edge_is_in edges mark e h k of_h of_k inside = elim (same_or_twin e k h of_k of_h) [
  | inl same ↦ subst (IsIn edges mark) (sym same) inside
  | inr turned ↦ subst (IsIn edges mark) (sym turned) (twin_is_in edges mark h inside)
]
