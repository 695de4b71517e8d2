-- Directions along one another, and places of one line.
use Rattle.std.proofs.Common.{arith, ◌≡◌, ℤ, pos, ◌+ℤ◌, ◌-ℤ◌, ◌*ℤ◌, sym, ap, ◌∙◌}
use Rattle.std.specs.Prelude.{◌≢◌}
use Rattle.std.proofs.lemmas.Int.{ints}
use Rattle.nest_base.specs.declared.places.Point.{Point}
use Rattle.nest_base.specs.Plane.{rational, cross_product, direction, IsOn}
use Rattle.nest_base.proofs.Differences.{diff_of, diff_same, diffs}
use Rattle.nest_base.proofs.Directions.{cross_product-turned}
use Rattle.nest_base.proofs.Points.{same_place, line_of_place, across_place, up_place}
use Rattle.segment_meeting.specs.Orientation.{orientation}
use Rattle.segment_meeting.proofs.Between.{only_between}
use Rattle.segment_meeting.proofs.Crossing.{orientation-second}
use Rattle.segment_meeting.proofs.Factors.{same_unless, zero_factor}
use Rattle.segment_meeting.proofs.Lines.{orientation-seen}
use Rattle.segment_meeting.proofs.OnePoint.{across_x, across_y}

-- the direction between two places that differ isn't zero
pub some_direction : (a b : Point) → a ≢ b → (direction a b).x ≡ pos 0 → (direction a b).y ≡ pos 0 → ⊥
some_direction a b apart e f = apart (same_place (omega (arith, ints, e)) (omega (arith, ints, f)))

-- two directions along a third, which isn't zero, go along one another
pub along_third : (d u v : Point) → (d.x ≡ pos 0 → d.y ≡ pos 0 → ⊥) → cross_product d u ≡ pos 0 → cross_product d v ≡ pos 0 → cross_product u v ≡ pos 0
along_third d u v some h k =
    let no_u = cross_product-turned d u h in
    let no_v = cross_product-turned d v k in
    let in_x = rw (no_u, no_v) at (across_x u v d) in
    let in_y = rw (no_u, no_v) at (across_y u v d) in
    same_unless (cross_product u v) (pos 0)
    (λ apart. some (zero_factor (cross_product u v) d.x apart (omega (arith, ints, in_x))) (zero_factor (cross_product u v) d.y apart (omega (arith, ints, in_y))))

-- a place of a segment lies on neither side of it
pub side-place : (a b q : Point) → IsOn (rational q) a b → orientation a b q ≡ pos 0
side-place a b q on = sym (orientation-seen a b q) ∙ line_of_place q a b on

-- where the ends of a segment are one place, that one alone lies on it
pub only_place : (a b q : Point) → a ≡ b → IsOn (rational q) a b → q ≡ a
only_place a b q same on = same_place (only_between a.x q.x b.x (ap (λ (p : Point). p.x) same) (across_place q a b on)) (only_between a.y q.y b.y (ap (λ (p : Point). p.y) same) (up_place q a b on))

-- the way between two places of a line goes along it
pub way_along : (a b p q : Point) → orientation a b p ≡ pos 0 → orientation a b q ≡ pos 0 → cross_product (direction a b) (direction p q) ≡ pos 0
way_along a b p q h k = omega (arith, ints, h, k, orientation-second a b p q)

-- three places of one line are in line
pub in_line : (a b p q r : Point) → a ≢ b → orientation a b p ≡ pos 0 → orientation a b q ≡ pos 0 → orientation a b r ≡ pos 0 → orientation p r q ≡ pos 0
in_line a b p q r apart h k l = along_third (direction a b) (direction p r) (direction p q) (some_direction a b apart) (way_along a b p r h l) (way_along a b p q h k)

-- where x lies of a line is where it lies of another place of the line
pub side-moved : (ax ay bx by px py x y w : ℤ) →
    (bx -ℤ ax) *ℤ (y -ℤ ay *ℤ w) -ℤ (by -ℤ ay) *ℤ (x -ℤ ax *ℤ w)
    ≡ ((bx -ℤ ax) *ℤ (y -ℤ py *ℤ w) -ℤ (by -ℤ ay) *ℤ (x -ℤ px *ℤ w)) +ℤ w *ℤ ((bx -ℤ ax) *ℤ (py -ℤ ay) -ℤ (by -ℤ ay) *ℤ (px -ℤ ax))
side-moved ax ay bx by px py x y w = rw (diff_of ax, diff_of ay, diff_of bx, diff_of by, diff_of px, diff_of py, diff_of x, diff_of y, diff_of w) (simp diffs (diff_same _ _ _ _ (omega arith)))
