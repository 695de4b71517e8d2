-- The cover of one component, as a plan has it.
use Rattle.std.specs.Prelude.{◌≡◌, ℕ, ◌≤◌, List, [], ◌∷◌, All, length}
use Rattle.nest_base.specs.declared.places.Point.{Point}
use Rattle.nest_base.specs.declared.places.Edge.{Edge}
use Rattle.nest_base.specs.Plane.{HalfEdge}
use Rattle.plate_sides.specs.Components.{IsIn}
use Rattle.plate_sides.specs.Limit.{IsLimit}
use Rattle.plate_sides.specs.Plans.{CoversWithin}

-- trails of one component that cover it in an order in which no edge is detached, no more than its limit
pub record IsComponentCover (edges : List Edge) (mark : Point) (own : List (List HalfEdge)) : Type 0 where
  pub covers : CoversWithin edges mark own
  pub inside : All (All (IsIn edges mark)) own
  pub limit : (n : ℕ) × IsLimit edges mark n × (length own ≤ n)

-- the last half-edge of a trail leads to p
abbrev pub EndsAtPlace : List HalfEdge → Point → Type 0
EndsAtPlace [] p = ⊥
EndsAtPlace (s ∷ []) p = s.to ≡ p
EndsAtPlace (s ∷ t ∷ rest) p = EndsAtPlace (t ∷ rest) p

-- and that of the last trail
abbrev pub LastEndsAt : List (List HalfEdge) → Point → Type 0
LastEndsAt [] p = ⊥
LastEndsAt (trail ∷ []) p = EndsAtPlace trail p
LastEndsAt (trail ∷ next ∷ rest) p = LastEndsAt (next ∷ rest) p
