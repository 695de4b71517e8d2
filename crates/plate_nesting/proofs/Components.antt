-- A component none of whose edges is burnt holds together.
use Rattle.std.proofs.Common.{◌≡◌, List, refl, sym, subst, ◌∙◌}
use Rattle.nest_base.specs.declared.places.Point.{Point}
use Rattle.nest_base.specs.declared.places.Edge.{Edge}
use Rattle.nest_base.specs.Plane.{HalfEdge, twin}
use Rattle.nest_base.specs.Walks.{Walk, here, on, against}
use Rattle.nest_base.proofs.Walks.{Walk-then, Walk-back, Walk-keeps}
use Rattle.plate_sides.specs.HalfEdges.{IsHalfEdge, IsNextCcw}
use Rattle.plate_sides.specs.Components.{IsIn, SameComponent}
use Rattle.plate_sides.specs.Links.{At, along, IsAlong, IsOuterSide}
use Rattle.plate_sides.specs.Nesting.{IsRound, IsWhole}
use Rattle.plate_sides.specs.Reach.{HasEdge, IsLinkedOver, within, across}
use Rattle.plate_sides.proofs.Components.{twin_is_in}
use Rattle.plate_sides.proofs.HalfEdges.{twin_is_half_edge}

-- half-edges go along within their component
along_is_in : (edges : List Edge) (mark : Point) (a b : HalfEdge) → IsAlong edges a b → (IsIn edges mark a → IsIn edges mark b) × (IsIn edges mark b → IsIn edges mark a)
along_is_in edges mark a b (is, next) = (
  λ inside. (next.one, subst (λ v. SameComponent edges v mark) next.other.1 (twin_is_in edges mark a inside).1),
  λ inside. (is, on is (subst (λ v. SameComponent edges v mark) (sym next.other.1) inside.1)),
)

-- so its outer sides lie in it
pub outer_side_is_in : (edges : List Edge) (mark : Point) (h : HalfEdge) → IsOuterSide edges mark h → IsIn edges mark h
outer_side_is_in edges mark h (m, side, leaves, walk) =
    Walk-keeps (IsIn edges mark) (along_is_in edges mark) walk (side.is_side, subst (λ v. SameComponent edges v mark) (sym leaves) here)

-- the vertices of two half-edges of one component are joined
pub both_are_joined : (edges : List Edge) (mark u v : Point) → SameComponent edges u mark → SameComponent edges v mark → SameComponent edges u v
both_are_joined edges mark u v h k = Walk-then h (Walk-back k)

-- where t is next to s counterclockwise, Across leads from t to its twin and Along from there to s
next_reaches : (edges : List Edge) (burnt : List HalfEdge) (s t : HalfEdge) → IsNextCcw edges s t → (HasEdge burnt t → ⊥) → Walk (IsLinkedOver edges burnt) (At s) (At t)
next_reaches edges burnt s t next unburnt =
    on (across next.other.0 unburnt) (on (within (along (twin_is_half_edge edges t next.other.0, next))) here)

-- all half-edges at a vertex of a whole component
turn_reaches : (edges : List Edge) (burnt : List HalfEdge) (mark : Point) → IsWhole edges mark burnt → {s r : HalfEdge} →
    SameComponent edges r.from mark → Walk (IsNextCcw edges) s r → Walk (IsLinkedOver edges burnt) (At s) (At r)
turn_reaches edges burnt mark whole same here = here
turn_reaches edges burnt mark whole same (on {a} {b} next walk) =
    let leaves : SameComponent edges b.from mark = subst (λ v. SameComponent edges v mark) (sym next.other.1) same in
    Walk-then (Walk-back (next_reaches edges burnt a b next (whole b (next.other.0, leaves)))) (turn_reaches edges burnt mark whole leaves walk)
turn_reaches edges burnt mark whole same (against {a} {b} next walk) =
    let leaves : SameComponent edges b.from mark = subst (λ v. SameComponent edges v mark) next.other.1 same in
    Walk-then (next_reaches edges burnt b a next (whole a (next.other.0, same))) (turn_reaches edges burnt mark whole leaves walk)

at_vertex : (edges : List Edge) (burnt : List HalfEdge) (mark : Point) → IsRound edges → IsWhole edges mark burnt → (r s : HalfEdge) →
    IsIn edges mark r → IsHalfEdge edges s → r.from ≡ s.from → Walk (IsLinkedOver edges burnt) (At s) (At r)
at_vertex edges burnt mark round whole r s (is, same) side e = turn_reaches edges burnt mark whole same (round.turn r s is side e)

-- over edges from vertex to vertex
over_edges : (edges : List Edge) (burnt : List HalfEdge) (mark : Point) → IsRound edges → IsWhole edges mark burnt → {v u : Point} →
    SameComponent edges u v → (r s : HalfEdge) → IsIn edges mark r → IsHalfEdge edges s → r.from ≡ u → s.from ≡ v →
    Walk (IsLinkedOver edges burnt) (At s) (At r)
over_edges edges burnt mark round whole here r s inside side at_u at_v = at_vertex edges burnt mark round whole r s inside side (at_u ∙ sym at_v)
over_edges edges burnt mark round whole (on {a} {b} edge walk) r s inside side at_u at_v =
    let h : HalfEdge = record { from = a; to = b } in
    let same : SameComponent edges a mark = subst (λ v. SameComponent edges v mark) at_u inside.1 in
    let far : IsIn edges mark (twin h) = twin_is_in edges mark h (edge, same) in
    Walk-then (at_vertex edges burnt mark round whole r h inside edge at_u)
    (on (across edge (whole h (edge, same))) (over_edges edges burnt mark round whole walk (twin h) s far side refl at_v))
over_edges edges burnt mark round whole (against {a} {b} edge walk) r s inside side at_u at_v =
    let h : HalfEdge = record { from = a; to = b } in
    let other : IsHalfEdge edges h = twin_is_half_edge edges (twin h) edge in
    let same : SameComponent edges a mark = subst (λ v. SameComponent edges v mark) at_u inside.1 in
    let far : IsIn edges mark (twin h) = twin_is_in edges mark h (other, same) in
    Walk-then (at_vertex edges burnt mark round whole r h inside other at_u)
    (on (across other (whole h (other, same))) (over_edges edges burnt mark round whole walk (twin h) s far side refl at_v))

-- any two half-edges of a component of which no edge is burnt are joined
pub whole_holds_together : (edges : List Edge) (burnt : List HalfEdge) (mark : Point) → IsRound edges → IsWhole edges mark burnt → (r s : HalfEdge) →
    IsIn edges mark r → IsIn edges mark s → Walk (IsLinkedOver edges burnt) (At s) (At r)
whole_holds_together edges burnt mark round whole r s inside other =
    over_edges edges burnt mark round whole (both_are_joined edges mark r.from s.from inside.1 other.1) r s inside other.0 refl refl
