-- Plans of a whole drawing, and the covers of its components.
use Rattle.std.specs.Prelude.{◌≡◌, ℕ, ◌≤◌, List, Some, flat_map, slice_get}
use Rattle.std.specs.List.{AllZip}
use Rattle.nest_base.specs.declared.places.Point.{Point}
use Rattle.nest_base.specs.declared.places.Edge.{Edge}
use Rattle.nest_base.specs.Plane.{HalfEdge}
use Rattle.plate_sides.specs.Components.{IsMark}
use Rattle.plate_sides.specs.Cover.{HasTrailsIn}
use Rattle.plate_sides.specs.Limit.{IsLimit}
use Rattle.plate_sides.specs.Plans.{IsEnclosingCover}
use Rattle.plate_sides.specs.ComponentCovers.{IsComponentCover}
use Rattle.plate_sides.specs.Bound.{NoCoverUndercuts, NoCoverUndercutsSum}

-- covers of the components with the numbers that stand in the order
abbrev pub AreComponentCovers : List Edge → List Point → List ℕ → List (List (List HalfEdge)) → Type 0
AreComponentCovers edges marks order component_covers =
    AllZip (λ c own. (mark : Point) × (slice_get marks c ≡ Some mark) × IsComponentCover edges mark own) order component_covers

-- the trails of all covers, cover after cover
abbrev pub all_trails : List (List (List HalfEdge)) → List (List HalfEdge)
all_trails component_covers = flat_map (λ own. own) component_covers

-- a cover that detaches no edge before it burns: it has no more trails in a component than this may take, and no cover has fewer there
-- than its bound, nor fewer in all than the sum of the bounds
pub record IsPlan (edges : List Edge) (trails : List (List HalfEdge)) : Type 0 where
  pub covers : IsEnclosingCover edges trails
  pub within_limit : (mark : Point) → IsMark edges mark →
      (n limit : ℕ) → HasTrailsIn edges mark trails n → IsLimit edges mark limit → n ≤ limit
  pub none_undercuts : (mark : Point) → IsMark edges mark → NoCoverUndercuts edges mark
  pub none_undercuts_sum : NoCoverUndercutsSum edges
