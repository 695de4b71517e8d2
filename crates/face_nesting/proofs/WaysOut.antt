-- Each half-edge of a drawing reaches the outside, over edges of which none is burnt.
use Rattle.std.proofs.Common.{inl, inr, List, [], sym, subst}
use Rattle.nest_base.specs.declared.places.Point.{Point}
use Rattle.nest_base.specs.declared.places.Edge.{Edge}
use Rattle.nest_base.specs.Plane.{HalfEdge, twin}
use Rattle.nest_base.specs.Walks.{here}
use Rattle.nest_base.proofs.Walks.{Walk-then}
use Rattle.nest_base.proofs.Lists.{Contains-none}
use Rattle.plate_sides.specs.HalfEdges.{IsHalfEdge}
use Rattle.plate_sides.specs.Components.{AreMarks, SameComponent, IsIn}
use Rattle.plate_sides.specs.Nesting.{IsRound, HasMarkSides, IsWhole}
use Rattle.plate_sides.specs.Reach.{Reaches, HasEdge}
use Rattle.plate_nesting.proofs.Components.{whole_holds_together}
use Rattle.plate_nesting.proofs.Reaching.{whole_components_reach}

pub none_burnt : (s : HalfEdge) → HasEdge [] s → ⊥
none_burnt s has = elim has [ inl one ↦ Contains-none s one | inr other ↦ Contains-none (twin s) other ]

pub each_reaches : (edges : List Edge) (marks : List Point) → AreMarks edges marks → IsRound edges → HasMarkSides edges → (h : HalfEdge) → IsHalfEdge edges h → Reaches edges [] h
each_reaches edges marks are_marks round sides h is =
    let component = round.marked h is in
    let mark = component.0 in
    let side = sides mark component.1 in
    let m = side.0 in
    let whole : (p : Point) → IsWhole edges p [] = λ p s inside has. none_burnt s has in
    let out = whole_components_reach edges marks [] mark are_marks round sides component.1 (λ p around. whole p) m (m, side.1, side.2, here) in
    let in_m : IsIn edges mark m = (side.1.is_side, subst (λ v. SameComponent edges v mark) (sym side.2) here) in
    Walk-then (whole_holds_together edges [] mark round (whole mark) h m component.2 in_m) out
