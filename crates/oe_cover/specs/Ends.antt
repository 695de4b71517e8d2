-- Where the burning of a component ends.
use Rattle.std.specs.Prelude.{◌≡◌, ◌⊎◌, ℕ, List, Some, slice_get}
use Rattle.std.specs.List.{AllZip}
use Rattle.nest_base.specs.declared.places.Point.{Point}
use Rattle.nest_base.specs.declared.places.Edge.{Edge}
use Rattle.nest_base.specs.Plane.{HalfEdge}
use Rattle.nest_base.specs.Order.{IsMarkedBefore}
use Rattle.plate_sides.specs.ComponentCovers.{LastEndsAt}
use Rattle.plate_sides.specs.Starts.{IsStart}

-- of the vertices at which a cover of the component may start, p comes first in the order of mark vertices
pub record IsFirstOfStarts (edges : List Edge) (mark p : Point) : Type 0 where
  pub start : HalfEdge
  pub is_start : IsStart edges mark start
  pub leaves : start.from ≡ p
  pub first : (s : HalfEdge) → IsStart edges mark s → (p ≡ s.from) ⊎ IsMarkedBefore p s.from

-- the last trail of each cover ends there
abbrev pub EndAtFirstStarts : List Edge → List Point → List ℕ → List (List (List HalfEdge)) → Type 0
EndAtFirstStarts edges marks order component_covers =
    AllZip (λ c own. (mark : Point) × (p : Point) × (slice_get marks c ≡ Some mark) × IsFirstOfStarts edges mark p × LastEndsAt own p) order component_covers
