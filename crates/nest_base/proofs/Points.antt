-- Places as points of the plane, and the points of a segment.
use Rattle.std.proofs.Common.{ap, arith, ◌≡◌, ◌≢◌, ℤ, pos, ◌*ℤ◌}
use Rattle.std.specs.Ordering.{int_eq}
use Rattle.std.specs.Bool.{Decides}
use Rattle.std.proofs.lemmas.Bool.Decides.{Decides-int_eq, Decides-and, Decides-like}
use Rattle.std.proofs.lemmas.Int.{ints}
use Rattle.nest_base.specs.declared.places.Point.{Point}
use Rattle.nest_base.specs.Order.{is_place}
use Rattle.nest_base.specs.Angles.{IsDirection}
use Rattle.nest_base.specs.Plane.{RationalPoint, IsBetween, IsOn, rational, scaled, numerators, direction, cross_product}
use Rattle.nest_base.proofs.Intervals.{first_between, turned_between}
use Rattle.nest_base.proofs.Directions.{cross_product-at, cross_product-turned}

-- places with the same coordinates are one
pub same_place : {p q : Point} → p.x ≡ q.x → p.y ≡ q.y → p ≡ q
same_place e f i = record { x = e i; y = f i }

-- the way from one place to another leads somewhere
pub IsDirection-direction : (a b : Point) → a ≢ b → IsDirection (direction a b)
IsDirection-direction a b apart none = apart (same_place (omega (arith, ints, none.0)) (omega (arith, ints, none.1)))

pub Decides-is_place : (v q : Point) → Decides (is_place v q) (v ≡ q)
Decides-is_place v q = Decides-like (is_place v q) (λ same. same_place same.0 same.1) (λ e. (ap (λ (p : Point). p.x) e, ap (λ (p : Point). p.y) e)) (Decides-and (int_eq v.x q.x) (int_eq v.y q.y) (Decides-int_eq v.x q.x) (Decides-int_eq v.y q.y))

pub mul-one : (v : ℤ) → v *ℤ pos 1 ≡ v
mul-one v = omega (arith, ints)

-- a place lies on a segment where it does in whole numbers
pub on_place : (p a b : Point) → cross_product (direction p a) (direction p b) ≡ pos 0 → IsBetween a.x p.x b.x → IsBetween a.y p.y b.y → IsOn (rational p) a b
on_place p a b line across up = record {
  on_line = rw (mul-one a.x, mul-one a.y, mul-one b.x, mul-one b.y) line;
  between_x = rw (mul-one a.x, mul-one b.x) across;
  between_y = rw (mul-one a.y, mul-one b.y) up;
}

pub line_of_place : (p a b : Point) → IsOn (rational p) a b → cross_product (direction p a) (direction p b) ≡ pos 0
line_of_place p a b on = rw (mul-one a.x, mul-one a.y, mul-one b.x, mul-one b.y) at on.on_line

pub across_place : (p a b : Point) → IsOn (rational p) a b → IsBetween a.x p.x b.x
across_place p a b on = rw (mul-one a.x, mul-one b.x) at on.between_x

pub up_place : (p a b : Point) → IsOn (rational p) a b → IsBetween a.y p.y b.y
up_place p a b on = rw (mul-one a.y, mul-one b.y) at on.between_y

-- the ends of a segment may change places
pub turned_on : (a b : Point) (p : RationalPoint) → IsOn p a b → IsOn p b a
turned_on a b p on = record {
  on_line = cross_product-turned (direction (numerators p) (scaled a p.w)) (direction (numerators p) (scaled b p.w)) on.on_line;
  between_x = turned_between (a.x *ℤ p.w) p.x (b.x *ℤ p.w) on.between_x;
  between_y = turned_between (a.y *ℤ p.w) p.y (b.y *ℤ p.w) on.between_y;
}

-- the ends of a segment lie on it
pub on_first : (a b : Point) → IsOn (rational a) a b
on_first a b = on_place a a b (cross_product-at a b) (first_between a.x b.x) (first_between a.y b.y)

pub on_last : (a b : Point) → IsOn (rational b) a b
on_last a b = turned_on b a (rational b) (on_first b a)
