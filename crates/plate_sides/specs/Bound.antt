-- How many pierces a component needs.
use Rattle.std.specs.Prelude.{◌≡◌, ℕ, ◌/◌, ◌<◌, ◌≤◌, List, length, [], sum}
use Rattle.std.specs.List.{AllZip}
use Rattle.nest_base.specs.declared.places.Point.{Point}
use Rattle.nest_base.specs.declared.places.Edge.{Edge}
use Rattle.nest_base.specs.Plane.{HalfEdge}
use Rattle.plate_sides.specs.Components.{AreMarks}
use Rattle.plate_sides.specs.Odd.{AreOddVertices}
use Rattle.plate_sides.specs.Cover.{IsCover, HasTrailsIn}

-- 1 where there is no odd vertex, else half their number
pub data IsBound (edges : List Edge) (mark : Point) (n : ℕ) : Type 0 where
  no_odd : AreOddVertices edges mark [] → n ≡ 1 → IsBound edges mark n
  some_odd : {odd : List Point} → AreOddVertices edges mark odd → 0 < length odd → n ≡ length odd / 2 → IsBound edges mark n

-- no cover has fewer than so many trails in the component
abbrev pub NoCoverHasFewerIn : List Edge → Point → ℕ → Type 0
NoCoverHasFewerIn edges mark least = (trails : List (List HalfEdge)) (n : ℕ) → IsCover edges trails → HasTrailsIn edges mark trails n → least ≤ n

-- no cover has fewer than so many trails in all
abbrev pub NoCoverHasFewer : List Edge → ℕ → Type 0
NoCoverHasFewer edges least = (trails : List (List HalfEdge)) → IsCover edges trails → least ≤ length trails

-- no cover has fewer trails in the component than its bound
abbrev pub NoCoverUndercuts : List Edge → Point → Type 0
NoCoverUndercuts edges mark = (bound : ℕ) → IsBound edges mark bound → NoCoverHasFewerIn edges mark bound

-- no cover has fewer trails in all than the sum of the bounds of all components
abbrev pub NoCoverUndercutsSum : List Edge → Type 0
NoCoverUndercutsSum edges =
    (marks : List Point) (bounds : List ℕ) → AreMarks edges marks → AllZip (IsBound edges) marks bounds → NoCoverHasFewer edges (sum bounds)
