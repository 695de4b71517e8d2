-- When two ways from one place are one direction.
use Rattle.std.specs.Prelude.{◌≡◌, pos, ◌⊎◌}
use Rattle.nest_base.specs.declared.places.Point.{Point}
use Rattle.segment_meeting.specs.Orientation.{orientation, LieBeyond}

-- from o the ways to u and to v are one direction
pub record Folds (o u v : Point) : Type 0 where
  pub straight : orientation o u v ≡ pos 0
  pub one_way : LieBeyond o.x u.x v.x ⊎ LieBeyond o.y u.y v.y
