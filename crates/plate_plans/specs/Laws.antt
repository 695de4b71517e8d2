-- What holds of the covers of all components, in burning order.
use Rattle.std.specs.Prelude.{◌≡◌, ℕ, List, Option, Some, length, slice_get}
use Rattle.nest_base.specs.declared.places.Point.{Point}
use Rattle.nest_base.specs.declared.places.Edge.{Edge}
use Rattle.nest_base.specs.Plane.{HalfEdge}
use Rattle.plate_sides.specs.Nesting.{AreParents}
use Rattle.plate_sides.specs.Cover.{HasTrailsIn}
use Rattle.plate_nesting.specs.Order.{ParentsComeFirst, IsBurningOrder}
use Rattle.plate_plans.specs.Plates.{IsPlate}
use Rattle.plate_plans.specs.Plans.{AreComponentCovers, all_trails, IsPlan}

-- children before the component that they lie in, they are a plan
abbrev pub ComponentCoversArePlan : Type 0
ComponentCoversArePlan =
    (edges : List Edge) (marks : List Point) (parents : List (Option ℕ)) (order : List ℕ) (component_covers : List (List (List HalfEdge))) →
    IsPlate edges marks → AreParents edges marks parents → IsBurningOrder parents order → AreComponentCovers edges marks order component_covers →
    IsPlan edges (all_trails component_covers)

-- and each component has the trails of its own cover in it, and no others
abbrev pub ComponentCoversAreCounted : Type 0
ComponentCoversAreCounted =
    (edges : List Edge) (marks : List Point) (parents : List (Option ℕ)) (order : List ℕ) (component_covers : List (List (List HalfEdge))) →
    IsPlate edges marks → AreParents edges marks parents → IsBurningOrder parents order → AreComponentCovers edges marks order component_covers →
    (i c : ℕ) (own : List (List HalfEdge)) (mark : Point) →
    slice_get order i ≡ Some c → slice_get component_covers i ≡ Some own → slice_get marks c ≡ Some mark →
    HasTrailsIn edges mark (all_trails component_covers) (length own)

-- a component's number is greater than that of the one that it lies in
abbrev pub ParentsHaveLesserNumbers : Type 0
ParentsHaveLesserNumbers =
    (edges : List Edge) (marks : List Point) (parents : List (Option ℕ)) → AreParents edges marks parents → ParentsComeFirst parents
