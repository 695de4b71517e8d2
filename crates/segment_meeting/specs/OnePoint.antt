-- When two points of the plane are one.
use Rattle.std.specs.Prelude.{◌≡◌, ◌*ℤ◌}
use Rattle.nest_base.specs.Plane.{RationalPoint}

-- p and q are one point, each told with a w of its own
pub record IsOnePoint (p q : RationalPoint) : Type 0 where
  pub same_x : p.x *ℤ q.w ≡ q.x *ℤ p.w
  pub same_y : p.y *ℤ q.w ≡ q.y *ℤ p.w
