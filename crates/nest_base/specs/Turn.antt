-- Directions, and the angle between two of them.
use Rattle.std.specs.Prelude.{◌≡◌, pos, negsuc, ◌<ℤ◌}
use Rattle.nest_base.specs.declared.places.Point.{Point}
use Rattle.nest_base.specs.Plane.{cross_product, dot_product}

-- from a to b one turns left, by less than half a turn
abbrev pub TurnsLeft : Point → Point → Type 0
TurnsLeft a b = pos 0 <ℤ cross_product a b

abbrev pub IsSameDirection : Point → Point → Type 0
IsSameDirection a b = (cross_product a b ≡ pos 0) × (pos 0 <ℤ dot_product a b)

abbrev pub IsOpposite : Point → Point → Type 0
IsOpposite a b = (cross_product a b ≡ pos 0) × (dot_product a b <ℤ pos 0)

-- d is met strictly after a and strictly before b when one turns counterclockwise from a
pub data IsInsideAngle (a d b : Point) : Type 0 where
  below_half : TurnsLeft a b → TurnsLeft a d → TurnsLeft d b → IsInsideAngle a d b
  above_half : TurnsLeft b a → (IsSameDirection d a → ⊥) → (IsSameDirection d b → ⊥) →
      (TurnsLeft b d × TurnsLeft d a → ⊥) → IsInsideAngle a d b
  half : IsOpposite a b → TurnsLeft a d → IsInsideAngle a d b
  whole : IsSameDirection a b → (IsSameDirection d a → ⊥) → IsInsideAngle a d b

abbrev pub west : Point
west = record { x = negsuc 0; y = pos 0 }
