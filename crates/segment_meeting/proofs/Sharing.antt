-- Sharing a point, whichever way the segments are written.
use Rattle.nest_base.specs.declared.places.Point.{Point}
use Rattle.nest_base.specs.Plane.{RationalPoint, IsOn}
use Rattle.nest_base.proofs.Points.{turned_on}

-- the segments from a to b and from c to d have a point in common
abbrev pub Share : Point → Point → Point → Point → Type 0
Share a b c d = (p : RationalPoint) × (IsOn p a b × IsOn p c d)

pub exchanged : (a b c d : Point) → Share c d a b → Share a b c d
exchanged a b c d share = (share.0, (share.1.1, share.1.0))

pub first_turned : (a b c d : Point) → Share b a c d → Share a b c d
first_turned a b c d share = (share.0, (turned_on b a share.0 share.1.0, share.1.1))
