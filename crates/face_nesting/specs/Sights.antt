-- Of each component, by number: its mark side, and what is seen from its mark vertex.
use Rattle.std.specs.Prelude.{◌≡◌, ℕ, List, Option, Some, None}
use Rattle.std.specs.List.{AllZip}
use Rattle.nest_base.specs.declared.places.Point.{Point}
use Rattle.nest_base.specs.declared.places.Edge.{Edge}
use Rattle.nest_base.specs.Plane.{HalfEdge}
use Rattle.plate_sides.specs.Links.{IsMarkSide, IsSeen, SeesNone}
use Rattle.half_edges.specs.Numbers.{IsSide}

-- s is the number of the mark side at this mark vertex
abbrev pub IsMarkSideOf : List Edge → Point → ℕ → Type 0
IsMarkSideOf edges mark s = (m : HalfEdge) × IsSide edges s m × IsMarkSide edges m × (m.from ≡ mark)

abbrev pub AreMarkSides : List Edge → List Point → List ℕ → Type 0
AreMarkSides edges marks sides = AllZip (IsMarkSideOf edges) marks sides

-- the number of the half-edge that is seen from p, or none where nothing is met
abbrev pub IsSight : List Edge → Point → Option ℕ → Type 0
IsSight edges p None = SeesNone edges p
IsSight edges p (Some s) = (d : HalfEdge) × IsSide edges s d × IsSeen edges p d

abbrev pub AreSights : List Edge → List Point → List (Option ℕ) → Type 0
AreSights edges marks sights = AllZip (IsSight edges) marks sights
