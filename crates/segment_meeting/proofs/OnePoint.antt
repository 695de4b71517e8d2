-- Two segments that aren't parallel have at most one point in common.
use Rattle.std.proofs.Common.{ap₂, arith, ◌≡◌, ℤ, pos, ◌-ℤ◌, ◌*ℤ◌}
use Rattle.std.proofs.lemmas.Int.{ints}
use Rattle.nest_base.specs.declared.places.Point.{Point}
use Rattle.nest_base.specs.declared.places.Segment.{Segment}
use Rattle.nest_base.specs.Plane.{RationalPoint, rational, IsAt, MeetIn, cross_product, direction}
use Rattle.nest_base.proofs.Differences.{diff_of, diffs, diff_same}
use Rattle.segment_meeting.specs.OnePoint.{IsOnePoint}
use Rattle.segment_meeting.proofs.Factors.{zero_factor}
use Rattle.segment_meeting.proofs.Lines.{side-on, point_orientation}

-- the way from one point to another, times both w
abbrev way : RationalPoint → RationalPoint → Point
way p q = record { x = (p.x *ℤ q.w) -ℤ (q.x *ℤ p.w); y = (p.y *ℤ q.w) -ℤ (q.y *ℤ p.w) }

-- it goes along a line that holds both
along : (ax ay bx by px py pw qx qy qw : ℤ) →
    ((bx -ℤ ax) *ℤ ((py *ℤ qw) -ℤ (qy *ℤ pw))) -ℤ ((by -ℤ ay) *ℤ ((px *ℤ qw) -ℤ (qx *ℤ pw)))
    ≡ (qw *ℤ (((bx -ℤ ax) *ℤ (py -ℤ (ay *ℤ pw))) -ℤ ((by -ℤ ay) *ℤ (px -ℤ (ax *ℤ pw))))) -ℤ (pw *ℤ (((bx -ℤ ax) *ℤ (qy -ℤ (ay *ℤ qw))) -ℤ ((by -ℤ ay) *ℤ (qx -ℤ (ax *ℤ qw)))))
along ax ay bx by px py pw qx qy qw = rw (diff_of ax, diff_of ay, diff_of bx, diff_of by, diff_of px, diff_of py, diff_of pw, diff_of qx, diff_of qy, diff_of qw) (simp diffs (diff_same _ _ _ _ (omega arith)))

along_line : (a b : Point) (p q : RationalPoint) →
    cross_product (direction a b) (way p q) ≡ (q.w *ℤ point_orientation a b p) -ℤ (p.w *ℤ point_orientation a b q)
along_line a b p q = along a.x a.y b.x b.y p.x p.y p.w q.x q.y q.w

-- what goes along two directions
pub across_x : (d e u : Point) → (cross_product d e *ℤ u.x) ≡ (e.x *ℤ cross_product d u) -ℤ (d.x *ℤ cross_product e u)
across_x d e u = rw (diff_of d.x, diff_of d.y, diff_of e.x, diff_of e.y, diff_of u.x, diff_of u.y) (simp diffs (diff_same _ _ _ _ (omega arith)))

pub across_y : (d e u : Point) → (cross_product d e *ℤ u.y) ≡ (e.y *ℤ cross_product d u) -ℤ (d.y *ℤ cross_product e u)
across_y d e u = rw (diff_of d.x, diff_of d.y, diff_of e.x, diff_of e.y, diff_of u.x, diff_of u.y) (simp diffs (diff_same _ _ _ _ (omega arith)))

pub times_zero : (a z : ℤ) → z ≡ pos 0 → a *ℤ z ≡ pos 0
times_zero a z e = rw e (omega (arith, ints))

pub one_point : (s t : Segment) → (cross_product (direction s.a s.b) (direction t.a t.b) ≡ pos 0 → ⊥) → (p q : RationalPoint) → MeetIn s t p → MeetIn s t q → IsOnePoint p q
one_point s t across p q at_p at_q =
    let d = direction s.a s.b in
    let e = direction t.a t.b in
    let u = way p q in
    let over_s : cross_product d u ≡ pos 0 = omega (arith, ints, along_line s.a s.b p q, times_zero q.w (point_orientation s.a s.b p) (side-on s.a s.b p at_p.0), times_zero p.w (point_orientation s.a s.b q) (side-on s.a s.b q at_q.0)) in
    let over_t : cross_product e u ≡ pos 0 = omega (arith, ints, along_line t.a t.b p q, times_zero q.w (point_orientation t.a t.b p) (side-on t.a t.b p at_p.1), times_zero p.w (point_orientation t.a t.b q) (side-on t.a t.b q at_q.1)) in
    let no_x : u.x ≡ pos 0 = zero_factor (cross_product d e) u.x across (omega (arith, ints, across_x d e u, times_zero e.x (cross_product d u) over_s, times_zero d.x (cross_product e u) over_t)) in
    let no_y : u.y ≡ pos 0 = zero_factor (cross_product d e) u.y across (omega (arith, ints, across_y d e u, times_zero e.y (cross_product d u) over_s, times_zero d.y (cross_product e u) over_t)) in
    record { same_x = omega (arith, ints, no_x); same_y = omega (arith, ints, no_y) }

-- where the second is a place, the first is that place
pub at_place : (p : RationalPoint) (q : Point) → IsOnePoint p (rational q) → IsAt p q
at_place p q same = ap₂ (λ x y. record { x = x; y = y }) (omega (arith, ints, same.same_x)) (omega (arith, ints, same.same_y))

-- two places in common are one
pub one_place : (s t : Segment) → (cross_product (direction s.a s.b) (direction t.a t.b) ≡ pos 0 → ⊥) → (q r : Point) → MeetIn s t (rational q) → MeetIn s t (rational r) → q ≡ r
one_place s t across q r at_q at_r =
    let same = one_point s t across (rational q) (rational r) at_q at_r in
    ap₂ (λ x y. record { x = x; y = y }) (omega (arith, ints, same.same_x)) (omega (arith, ints, same.same_y))
