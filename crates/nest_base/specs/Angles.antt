-- Directions by angle, counterclockwise from west.
use Rattle.std.specs.Prelude.{◌≡◌, ℕ, pos, ◌⊎◌}
use Rattle.std.specs.declared.cmp.Ordering.{Ordering}
use Rattle.std.specs.declared.cmp.Ordering.TheVariants.{Less}
use Rattle.std.specs.Ordering.{ordering_then, match_ordering, nat_cmp, int_cmp}
use Rattle.nest_base.specs.declared.places.Point.{Point}
use Rattle.nest_base.specs.Plane.{cross_product}
use Rattle.nest_base.specs.Turn.{IsSameDirection, IsInsideAngle, west}

-- one that leads somewhere
abbrev pub IsDirection : Point → Type 0
IsDirection d = (d.x ≡ pos 0) × (d.y ≡ pos 0) → ⊥

-- the half of all directions to which d belongs: 1 from west on as far as just before east, 2 from east on as far as just before
-- west; what leads nowhere is alone in its half, 0
abbrev pub half_of : Point → ℕ
half_of d = match_ordering (int_cmp d.y (pos 0)) 1 (match_ordering (int_cmp d.x (pos 0)) 1 0 2) 2

-- by half, and in one half by the turn: a comes before b where one turns left from a to b
abbrev pub angle_cmp : Point → Point → Ordering
angle_cmp a b = ordering_then (nat_cmp (half_of a) (half_of b)) (int_cmp (pos 0) (cross_product a b))

-- what that means: who turns counterclockwise from west meets a strictly before b, and west itself at once
abbrev pub IsBeforeFromWest : Point → Point → Type 0
IsBeforeFromWest a b = (IsSameDirection b west → ⊥) × (IsSameDirection a west ⊎ IsInsideAngle west a b)

-- a comes before b by this order
abbrev pub IsBeforeByAngle : Point → Point → Type 0
IsBeforeByAngle a b = angle_cmp a b ≡ Less

-- d comes after a and before b by this order; where a doesn't come before b, the way from a on to b leads past west, and d
-- comes after a or before b
pub data IsBetweenByAngle (a d b : Point) : Type 0 where
  within : IsBeforeByAngle a b → IsBeforeByAngle a d → IsBeforeByAngle d b → IsBetweenByAngle a d b
  before_west : (IsBeforeByAngle a b → ⊥) → IsBeforeByAngle a d → IsBetweenByAngle a d b
  past_west : (IsBeforeByAngle a b → ⊥) → IsBeforeByAngle d b → IsBetweenByAngle a d b
