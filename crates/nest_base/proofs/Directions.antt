-- Cross products and dot products of directions.
use Rattle.std.proofs.Common.{arith, ◌≡◌, ℤ, pos, ◌+ℤ◌, ◌-ℤ◌, ◌*ℤ◌, ◌<ℤ◌}
use Rattle.std.proofs.lemmas.Int.{ints}
use Rattle.nest_base.specs.declared.places.Point.{Point}
use Rattle.nest_base.specs.Plane.{cross_product, dot_product, direction}
use Rattle.nest_base.specs.Turn.{IsSameDirection, IsOpposite}
use Rattle.nest_base.specs.Angles.{IsDirection}
use Rattle.nest_base.proofs.Differences.{diff_of, diff_same, diffs}
use Rattle.nest_base.proofs.Signs.{mul_pos, square_nonneg, square_pos, by_sign}

pub cross_product-self : (a : Point) → cross_product a a ≡ pos 0
cross_product-self a = omega (arith, ints)

-- directions on one line are so in either order
pub cross_product-turned : (a b : Point) → cross_product a b ≡ pos 0 → cross_product b a ≡ pos 0
cross_product-turned a b line = omega (arith, ints, line)

-- a place is in line with itself
pub cross_product-at : (a b : Point) → cross_product (direction a a) (direction a b) ≡ pos 0
cross_product-at a b = rw (none a.x, none a.y) (omega (arith, ints))
  where
    none : (v : ℤ) → v -ℤ v ≡ pos 0
    none v = omega (arith, ints)

-- a direction's product with itself is positive
pub dot_product-self : (d : Point) → IsDirection d → pos 0 <ℤ dot_product d d
dot_product-self d some = by_sign d.x
    (λ right. omega (arith, ints, mul_pos d.x d.x right right, square_nonneg d.y))
    (λ none. omega (arith, ints, square_nonneg d.x, square_pos d.y (λ also. some (none, also))))
    (λ left. omega (arith, ints, square_pos d.x (λ e. omega (arith, ints, e, left)), square_nonneg d.y))

-- opposite directions are so in either order, and so are directions that are the same
pub IsOpposite-sym : (a b : Point) → IsOpposite a b → IsOpposite b a
IsOpposite-sym a b o = (cross_product-turned a b o.0, omega (arith, ints, o.1))

pub IsSameDirection-sym : (a b : Point) → IsSameDirection a b → IsSameDirection b a
IsSameDirection-sym a b s = (cross_product-turned a b s.0, omega (arith, ints, s.1))

-- of three directions each is the sum of the other two, weighted by turns
pub balance_y : (bx by cx cy dx dy : ℤ) → ((bx *ℤ cy) -ℤ (by *ℤ cx)) *ℤ dy +ℤ ((cx *ℤ dy) -ℤ (cy *ℤ dx)) *ℤ by ≡ ((bx *ℤ dy) -ℤ (by *ℤ dx)) *ℤ cy
balance_y bx by cx cy dx dy = rw (diff_of bx, diff_of by, diff_of cx, diff_of cy, diff_of dx, diff_of dy) (simp diffs (diff_same _ _ _ _ (omega arith)))
