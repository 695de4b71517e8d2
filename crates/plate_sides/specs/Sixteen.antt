-- Sixteen directions all round, and what the angles between them are.
use Rattle.std.specs.Prelude.{◌≡◌, ◌↔◌, ℕ, ◌+◌, ◌-◌, ◌%◌, ◌<◌, ◌==◌, if◌then◌else◌, ℤ, pos, negsuc, List, [], ◌∷◌, Some, slice_get}
use Rattle.nest_base.specs.declared.places.Point.{Point}
use Rattle.nest_base.specs.Turn.{TurnsLeft, IsSameDirection, IsOpposite, IsInsideAngle}

-- the direction that leads by x and y
abbrev pub towards : ℤ → ℤ → Point
towards x y = record { x = x; y = y }

-- the places round a square, seen from its middle: counterclockwise, from due east on
abbrev pub sixteen : List Point
sixteen =
    towards (pos 2) (pos 0) ∷ towards (pos 2) (pos 1) ∷ towards (pos 2) (pos 2) ∷ towards (pos 1) (pos 2)
    ∷ towards (pos 0) (pos 2) ∷ towards (negsuc 0) (pos 2) ∷ towards (negsuc 1) (pos 2) ∷ towards (negsuc 1) (pos 1)
    ∷ towards (negsuc 1) (pos 0) ∷ towards (negsuc 1) (negsuc 0) ∷ towards (negsuc 1) (negsuc 1) ∷ towards (negsuc 0) (negsuc 1)
    ∷ towards (pos 0) (negsuc 1) ∷ towards (pos 1) (negsuc 1) ∷ towards (pos 2) (negsuc 1) ∷ towards (pos 2) (negsuc 0) ∷ []

-- a is the direction at place i
abbrev pub IsDirectionAt : ℕ → Point → Type 0
IsDirectionAt i a = slice_get sixteen i ≡ Some a

-- how many places one goes on, counterclockwise, from place i to place j
abbrev pub steps : ℕ → ℕ → ℕ
steps i j = (j + 16 - i) % 16

-- the same as an angle, which is a whole turn where the places are one
abbrev pub angle_steps : ℕ → ℕ → ℕ
angle_steps i j = if steps i j == 0 then 16 else steps i j

-- what a direction n places on from a is to it: the same, on its left, opposite, or on its right
pub record IsTurnOf (n : ℕ) (a b : Point) : Type 0 where
  pub none : (n ≡ 0) ↔ IsSameDirection a b
  pub left : ((0 < n) × (n < 8)) ↔ TurnsLeft a b
  pub half : (n ≡ 8) ↔ IsOpposite a b
  pub right : (8 < n) ↔ TurnsLeft b a

-- the steps between two places tell which of the four cases the angle is
abbrev pub StepsTellTurns : Type 0
StepsTellTurns = (i j : ℕ) (a b : Point) → IsDirectionAt i a → IsDirectionAt j b → IsTurnOf (steps i j) a b

-- an angle holds the directions at the places after its first and before its last
abbrev pub AnglesHoldPlacesBetween : Type 0
AnglesHoldPlacesBetween =
    (i l j : ℕ) (a d b : Point) → IsDirectionAt i a → IsDirectionAt l d → IsDirectionAt j b →
    IsInsideAngle a d b ↔ ((0 < steps i l) × (steps i l < angle_steps i j))
