-- A component has one mark vertex.
use Rattle.std.proofs.Common.{◌≡◌, List, inl, inr, sym}
use Rattle.nest_base.specs.declared.places.Point.{Point}
use Rattle.nest_base.specs.declared.places.Edge.{Edge}
use Rattle.nest_base.specs.Plane.{HalfEdge}
use Rattle.nest_base.proofs.Walks.{Walk-then, Walk-back}
use Rattle.plate_sides.specs.Components.{IsMark, IsIn, SameComponent}
use Rattle.nest_base.proofs.Orders.{IsMarkedBefore-asym}

-- mark vertices that edges join are one
pub joined_marks : (edges : List Edge) (p q : Point) → IsMark edges p → IsMark edges q → SameComponent edges q p → p ≡ q
joined_marks edges p q is_p is_q walk = elim (is_p.first q walk) [
  | inl same ↦ sym same
  | inr before ↦ elim (is_q.first p (Walk-back walk)) [
    | inl same ↦ same
    | inr after ↦ absurd (IsMarkedBefore-asym p q before after)
  ]
]

-- mark vertices of the component of one half-edge are one
pub one_mark : (edges : List Edge) (p q : Point) (h : HalfEdge) → IsMark edges p → IsMark edges q → IsIn edges p h → IsIn edges q h → p ≡ q
one_mark edges p q h is_p is_q in_p in_q = joined_marks edges p q is_p is_q (Walk-then (Walk-back in_q.1) in_p.1)
