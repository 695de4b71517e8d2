-- What stands in the cycle of a component's outer sides is one of them.
use Rattle.std.proofs.Common.{arith, ◌≡◌, ℕ, zero, suc, ◌+◌, ◌<◌, List, [], ◌∷◌, ◌++◌, length, get_or, sym, subst}
use Rattle.std.specs.Prelude.{Contains}
use Rattle.std.proofs.lemmas.List.{get_or_append_left}
use Rattle.std.proofs.lemmas.Option.{get_or_from_slice_get}
use Rattle.nest_base.specs.declared.places.Point.{Point}
use Rattle.nest_base.specs.declared.places.Edge.{Edge}
use Rattle.nest_base.specs.Plane.{HalfEdge}
use Rattle.nest_base.specs.Walks.{here, against}
use Rattle.plate_sides.specs.Links.{IsAlong, IsOuterSide}
use Rattle.plate_sides.specs.Nesting.{IsOuterCycle}

module _ (edges : List Edge) (mark : Point) (cycle : List HalfEdge) (is : IsOuterCycle edges mark cycle) where
  goes_on : (k : ℕ) (d : HalfEdge) → k + 1 < length cycle → IsAlong edges (get_or cycle k d) (get_or cycle (k + 1) d)
  goes_on k d within =
      let path = cycle ++ is.mark_side ∷ [] in
      let here = get_or_append_left cycle (is.mark_side ∷ []) d k (omega (arith, within)) in
      let next = get_or_append_left cycle (is.mark_side ∷ []) d (k + 1) within in
      subst (λ g. IsAlong edges g (get_or cycle (k + 1) d)) here (subst (IsAlong edges (get_or path k d)) next (is.goes_round k d (omega (arith, within))))

  stands_outside : (k : ℕ) (d : HalfEdge) → k < length cycle → IsOuterSide edges mark (get_or cycle k d)
  stands_outside zero d within =
      let first : is.mark_side ≡ get_or cycle 0 d = sym (get_or_from_slice_get cycle 0 is.mark_side d is.begins) in
      subst (IsOuterSide edges mark) first (is.mark_side, is.is_mark_side, is.leaves, here)
  stands_outside (suc k) d within =
      let (m, side, leaves, walk) = stands_outside k d (omega arith) in
      let next : k + 1 ≡ suc k = omega arith in
      (m, side, leaves, against (subst (λ j. IsAlong edges (get_or cycle k d) (get_or cycle j d)) next (goes_on k d (omega arith))) walk)

  pub cycle_is_outer : (h : HalfEdge) → Contains cycle h → IsOuterSide edges mark h
  cycle_is_outer h (k, within, at) = subst (IsOuterSide edges mark) at (stands_outside k h within)
