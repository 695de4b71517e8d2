-- What holds of bounds, and of limits.
use Rattle.std.specs.Prelude.{◌≡◌, ◌≢◌, ℕ, List, All, AllPairs, length, sum}
use Rattle.std.specs.List.{AllZip}
use Rattle.nest_base.specs.declared.places.Point.{Point}
use Rattle.nest_base.specs.declared.places.Edge.{Edge}
use Rattle.nest_base.specs.Plane.{HalfEdge}
use Rattle.nest_base.specs.Order.{IsBefore}
use Rattle.plate_sides.specs.Components.{IsMark, AreMarks}
use Rattle.plate_sides.specs.Nesting.{IsRound}
use Rattle.plate_sides.specs.Cover.{IsTrail, HasTrailsIn}
use Rattle.plate_sides.specs.Limit.{IsLimit}
use Rattle.plate_sides.specs.Bound.{IsBound, NoCoverUndercuts, NoCoverUndercutsSum}

-- where the ends of edges are in order and no edge stands twice, no cover has fewer trails in a component than its bound
abbrev pub NoneUndercuts : Type 0
NoneUndercuts =
    (edges : List Edge) → All (λ (e : Edge). IsBefore e.low e.high) edges → AllPairs (λ e f. e ≢ f) edges →
    (mark : Point) → IsMark edges mark → NoCoverUndercuts edges mark

-- nor, where each half-edge lies in the component of some mark vertex, fewer trails in all than the sum of the bounds
abbrev pub NoneUndercutsSum : Type 0
NoneUndercutsSum =
    (edges : List Edge) → All (λ (e : Edge). IsBefore e.low e.high) edges → AllPairs (λ e f. e ≢ f) edges → IsRound edges →
    NoCoverUndercutsSum edges

-- of any trails a component has a number, so each cover is one of those that its bound speaks of
abbrev pub TrailsAreCounted : Type 0
TrailsAreCounted =
    (edges : List Edge) (trails : List (List HalfEdge)) → IsRound edges → All (IsTrail edges) trails →
    (mark : Point) → IsMark edges mark → (n : ℕ) × HasTrailsIn edges mark trails n

-- and these numbers, of all components, add up to the number of trails
abbrev pub CountsAddUp : Type 0
CountsAddUp =
    (edges : List Edge) (trails : List (List HalfEdge)) → IsRound edges → All (IsTrail edges) trails →
    (marks : List Point) (counts : List ℕ) → AreMarks edges marks → AllZip (λ mark n. HasTrailsIn edges mark trails n) marks counts →
    sum counts ≡ length trails

-- a component has one bound
abbrev pub BoundIsOne : Type 0
BoundIsOne = (edges : List Edge) (mark : Point) (a b : ℕ) → IsBound edges mark a → IsBound edges mark b → a ≡ b

-- and one limit
abbrev pub LimitIsOne : Type 0
LimitIsOne = (edges : List Edge) (mark : Point) (a b : ℕ) → IsLimit edges mark a → IsLimit edges mark b → a ≡ b
