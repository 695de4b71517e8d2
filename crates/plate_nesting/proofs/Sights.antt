-- Sights go west: an edge that is met from a place has an end further west, so a component lies in one whose mark vertex comes before.
use Rattle.std.proofs.Common.{arith, ◌≡◌, ◌⊎◌, ℤ, pos, ◌+ℤ◌, ◌-ℤ◌, ◌*ℤ◌, ◌<ℤ◌, ◌≤ℤ◌, List, inl, inr, ap}
use Rattle.std.proofs.lemmas.Int.{ints}
use Rattle.nest_base.specs.declared.places.Point.{Point}
use Rattle.nest_base.specs.declared.places.Edge.{Edge}
use Rattle.nest_base.specs.Plane.{HalfEdge, twin}
use Rattle.nest_base.specs.Order.{IsMarkedBefore}
use Rattle.nest_base.specs.Sight.{IsMet}
use Rattle.nest_base.proofs.Differences.{diff_of, diffs, diff_same}
use Rattle.nest_base.proofs.Signs.{mul_nonneg}
use Rattle.plate_sides.specs.Components.{IsMark, IsIn}
use Rattle.plate_sides.specs.Nesting.{IsParent}
use Rattle.plate_sides.proofs.Components.{twin_is_in}
use Rattle.plate_nesting.proofs.Factors.{less_or_not}

-- the cross product of the heading from (fx, fy) to (tx, ty) with the direction to (qx, qy)
crossed : (fx fy tx ty qx qy : ℤ) → ((tx -ℤ fx) *ℤ (qy -ℤ fy)) +ℤ (((tx -ℤ qx) *ℤ (fy -ℤ qy)) +ℤ ((fx -ℤ qx) *ℤ (qy -ℤ ty))) ≡
    (ty -ℤ fy) *ℤ (qx -ℤ fx)
crossed fx fy tx ty qx qy = rw (diff_of fx, diff_of fy, diff_of tx, diff_of ty, diff_of qx, diff_of qy) (simp diffs (diff_same _ _ _ _ (omega arith)))

-- not both ends of a met edge lie at or east of the place
pub not_east : (q : Point) (d : HalfEdge) → IsMet q d → q.x ≤ℤ d.from.x → q.x ≤ℤ d.to.x → ⊥
not_east q d met from to =
    let one : pos 0 ≤ℤ ((d.to.x -ℤ q.x) *ℤ (d.from.y -ℤ q.y)) = mul_nonneg (d.to.x -ℤ q.x) (d.from.y -ℤ q.y) (omega (arith, ints)) (omega (arith, ints, met.upper_end)) in
    let other : pos 0 ≤ℤ ((d.from.x -ℤ q.x) *ℤ (q.y -ℤ d.to.y)) = mul_nonneg (d.from.x -ℤ q.x) (q.y -ℤ d.to.y) (omega (arith, ints)) (omega (arith, ints, met.lower_end)) in
    omega (arith, ints, met.is_east, crossed d.from.x d.from.y d.to.x d.to.y q.x q.y, one, other)

-- one of the ends lies further west
pub met_goes_west : (q : Point) (d : HalfEdge) → IsMet q d → (d.from.x <ℤ q.x) ⊎ (d.to.x <ℤ q.x)
met_goes_west q d met = elim (less_or_not d.from.x q.x) [
  | inl west ↦ inl west
  | inr from ↦ elim (less_or_not d.to.x q.x) [
    | inl west ↦ inr west
    | inr to ↦ absurd (not_east q d met from to)
  ]
]

-- no vertex of a component lies west of its mark vertex
mark_is_west : (edges : List Edge) (mark : Point) (h : HalfEdge) → IsMark edges mark → IsIn edges mark h → mark.x ≤ℤ h.from.x
mark_is_west edges mark h is inside = elim (is.first h.from inside.1) [
  | inl e ↦ let level : h.from.x ≡ mark.x = ap (λ (v : Point). v.x) e in omega (arith, ints, level)
  | inr (inl west) ↦ omega (arith, ints, west)
  | inr (inr same) ↦ omega (arith, ints, same.0)
]

-- the mark vertex of a parent lies strictly further west
pub parent_is_west : (edges : List Edge) (c p : Point) → IsParent edges c p → p.x <ℤ c.x
parent_is_west edges c p (d, seen, is, inside) = elim (met_goes_west c d seen.is_met) [
  | inl west ↦ let least : p.x ≤ℤ d.from.x = mark_is_west edges p d is inside in omega (arith, ints, west, least)
  | inr west ↦ let least : p.x ≤ℤ d.to.x = mark_is_west edges p (twin d) is (twin_is_in edges p d inside) in omega (arith, ints, west, least)
]

pub parent_comes_before : (edges : List Edge) (c p : Point) → IsParent edges c p → IsMarkedBefore p c
parent_comes_before edges c p h = inl (parent_is_west edges c p h)
