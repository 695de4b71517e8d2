-- Covers of a drawing by trails.
use Rattle.std.specs.Prelude.{◌≡◌, ℕ, List, [], ◌∷◌, Contains, All, flat_map}
use Rattle.nest_base.specs.declared.places.Point.{Point}
use Rattle.nest_base.specs.declared.places.Edge.{Edge}
use Rattle.nest_base.specs.Plane.{HalfEdge}
use Rattle.nest_base.specs.Selection.{HasCount}
use Rattle.plate_sides.specs.HalfEdges.{IsHalfEdge, IsHalfEdgeOf}
use Rattle.plate_sides.specs.Components.{IsIn}

-- at least one half-edge, and each begins where the one before it ends
abbrev pub IsTrail : List Edge → List HalfEdge → Type 0
IsTrail edges [] = ⊥
IsTrail edges (s ∷ []) = IsHalfEdge edges s
IsTrail edges (s ∷ t ∷ rest) = IsHalfEdge edges s × (s.to ≡ t.from) × IsTrail edges (t ∷ rest)

-- the half-edges of all trails, trail after trail
abbrev pub joined : List (List HalfEdge) → List HalfEdge
joined trails = flat_map (λ trail. trail) trails

-- trails in which, over all of them, each edge stands exactly once
pub record IsCover (edges : List Edge) (trails : List (List HalfEdge)) : Type 0 where
  pub are_trails : All (IsTrail edges) trails
  pub each_once : (e : Edge) → Contains edges e → HasCount (IsHalfEdgeOf e) (joined trails) 1

-- n of the trails lie in the component with this mark vertex
abbrev pub HasTrailsIn : List Edge → Point → List (List HalfEdge) → ℕ → Type 0
HasTrailsIn edges mark trails n = HasCount (All (IsIn edges mark)) trails n
