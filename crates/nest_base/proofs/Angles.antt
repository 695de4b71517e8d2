-- The order of directions by angle.
use Rattle.std.proofs.Common.{◌≡◌}
use Rattle.std.specs.Prelude.{◌↔◌}
use Rattle.std.specs.declared.cmp.Ordering.TheVariants.{Less, Equal, Greater}
use Rattle.std.specs.Cmp.{IsTotalOrder}
use Rattle.nest_base.specs.declared.places.Point.{Point}
use Rattle.nest_base.specs.Turn.{IsSameDirection, IsInsideAngle}
use Rattle.nest_base.specs.Angles.{IsDirection, angle_cmp, IsBeforeFromWest, IsBetweenByAngle}
use Rattle.nest_base.proofs.Earlier.{earlier_is_total, rank-angle_cmp, angle_cmp-rank}
use Rattle.nest_base.proofs.Halves.{half-same, same_in_half}
use Rattle.nest_base.proofs.FromWest.{from_west, earlier_from_west}
use Rattle.nest_base.proofs.BetweenByAngle.{inside_is_between}

-- the order by angle is a total order; it doesn't tell directions apart that are the same
pub angle_cmp-total : IsTotalOrder angle_cmp
angle_cmp-total = earlier_is_total

-- directions that it doesn't tell apart are the same
pub angle_cmp-equal : (a b : Point) → IsDirection a → IsDirection b → (angle_cmp a b ≡ Equal) ↔ IsSameDirection a b
angle_cmp-equal a b is_a is_b =
    (λ e. let level = rank-angle_cmp Equal a b e in same_in_half a b is_a level.0 level.1, λ same. angle_cmp-rank Equal a b (half-same a b is_a is_b same, same.0))

-- it's the order in which one meets directions who turns counterclockwise from west
pub angle_cmp-less : (a b : Point) → IsDirection a → IsDirection b → (angle_cmp a b ≡ Less) ↔ IsBeforeFromWest a b
angle_cmp-less a b is_a is_b =
    (λ e. from_west a b is_a is_b (rank-angle_cmp Less a b e), λ before. angle_cmp-rank Less a b (earlier_from_west a b is_a is_b before))

-- and the other way round
pub angle_cmp-greater : (a b : Point) → IsDirection a → IsDirection b → (angle_cmp a b ≡ Greater) ↔ IsBeforeFromWest b a
angle_cmp-greater a b is_a is_b =
    (λ e. from_west b a is_b is_a (rank-angle_cmp Greater a b e), λ before. angle_cmp-rank Greater a b (earlier_from_west b a is_b is_a before))

-- an angle holds the directions that lie between its own by this order
pub inside-between : (a d b : Point) → IsDirection a → IsDirection d → IsDirection b → IsInsideAngle a d b ↔ IsBetweenByAngle a d b
inside-between = inside_is_between
