-- Two segments that aren't parallel, and neither of which lies aside of the other, meet.
use Rattle.std.proofs.Common.{arith, ◌≡◌, ℤ, pos, ◌+ℤ◌, ◌-ℤ◌, ◌*ℤ◌, ◌<ℤ◌, ◌≤ℤ◌, inl, inr}
use Rattle.std.specs.Prelude.{neg_ℤ}
use Rattle.std.proofs.lemmas.Int.{ints, by_lt_z}
use Rattle.nest_base.specs.declared.places.Point.{Point}
use Rattle.nest_base.specs.Plane.{cross_product, direction, IsOn}
use Rattle.nest_base.proofs.Differences.{diff_of, diffs, diff_same, mul-neg}
use Rattle.nest_base.proofs.Points.{turned_on}
use Rattle.segment_meeting.specs.Orientation.{orientation, LieBeyond, LieAside}
use Rattle.segment_meeting.proofs.Between.{turned_beyond, negated_beyond}
use Rattle.segment_meeting.proofs.Lines.{orientation-turned}
use Rattle.segment_meeting.proofs.Along.{point_along, point_along-on}
use Rattle.segment_meeting.proofs.Sharing.{Share}

-- by how much the way from c to d turns left of that from a to b
abbrev pub turn : Point → Point → Point → Point → ℤ
turn a b c d = cross_product (direction a b) (direction c d)

-- the point in which two lines meet, along either
cramer_x : (a b c d : Point) → a.x *ℤ turn a b c d +ℤ (b.x -ℤ a.x) *ℤ orientation c d a ≡ c.x *ℤ turn a b c d -ℤ (d.x -ℤ c.x) *ℤ orientation a b c
cramer_x a b c d = rw (diff_of a.x, diff_of a.y, diff_of b.x, diff_of b.y, diff_of c.x, diff_of c.y, diff_of d.x, diff_of d.y) (simp diffs (diff_same _ _ _ _ (omega arith)))

cramer_y : (a b c d : Point) → a.y *ℤ turn a b c d +ℤ (b.y -ℤ a.y) *ℤ orientation c d a ≡ c.y *ℤ turn a b c d -ℤ (d.y -ℤ c.y) *ℤ orientation a b c
cramer_y a b c d = rw (diff_of a.x, diff_of a.y, diff_of b.x, diff_of b.y, diff_of c.x, diff_of c.y, diff_of d.x, diff_of d.y) (simp diffs (diff_same _ _ _ _ (omega arith)))

-- from one end to the other the side changes by the turn
pub orientation-second : (a b c d : Point) → orientation a b d ≡ orientation a b c +ℤ turn a b c d
orientation-second a b c d = rw (diff_of a.x, diff_of a.y, diff_of b.x, diff_of b.y, diff_of c.x, diff_of c.y, diff_of d.x, diff_of d.y) (simp diffs (diff_same _ _ _ _ (omega arith)))

pub orientation-first : (a b c d : Point) → orientation c d a ≡ orientation c d b +ℤ turn a b c d
orientation-first a b c d = rw (diff_of a.x, diff_of a.y, diff_of b.x, diff_of b.y, diff_of c.x, diff_of c.y, diff_of d.x, diff_of d.y) (simp diffs (diff_same _ _ _ _ (omega arith)))

-- a number that rises, and doesn't stay on one side of 0, passes it
passes : (f g k : ℤ) → (LieBeyond (pos 0) f g → ⊥) → g ≡ f +ℤ k → pos 0 <ℤ k → (f ≤ℤ pos 0) × (pos 0 ≤ℤ g)
passes f g k astride e rises = (by_lt_z (pos 0) f (λ h. absurd (astride (inl (h, omega (arith, ints))))) (λ h. h), by_lt_z g (pos 0) (λ h. absurd (astride (inr (omega (arith, ints), h)))) (λ h. h))

-- the point at part / whole of the way from a to b lies on that segment and on the one from c to d
pub record MeetsAlong (a b c d : Point) (part whole : ℤ) : Type 0 where
  pub positive : pos 0 <ℤ whole
  pub from_zero : pos 0 ≤ℤ part
  pub to_one : part ≤ℤ whole
  pub on_first : IsOn (point_along a b part whole positive) a b
  pub on_second : IsOn (point_along a b part whole positive) c d

-- where the second turns left of the first
pub crossing_left : (a b c d : Point) → pos 0 <ℤ turn a b c d → (LieAside a b c d → ⊥) → (LieAside c d a b → ⊥) → MeetsAlong a b c d (orientation c d a) (turn a b c d)
crossing_left a b c d left over_first over_second =
    let w = turn a b c d in
    let t = orientation c d a in
    let f = orientation a b c in
    let first = passes f (orientation a b d) w over_first (orientation-second a b c d) left in
    let second = passes (orientation c d b) t w (λ h. over_second (turned_beyond (pos 0) (orientation c d b) t h)) (orientation-first a b c d) left in
    let same_x : a.x *ℤ w +ℤ (b.x -ℤ a.x) *ℤ t ≡ c.x *ℤ w +ℤ (d.x -ℤ c.x) *ℤ neg_ℤ f = omega (arith, ints, cramer_x a b c d, mul-neg (d.x -ℤ c.x) f) in
    let same_y : a.y *ℤ w +ℤ (b.y -ℤ a.y) *ℤ t ≡ c.y *ℤ w +ℤ (d.y -ℤ c.y) *ℤ neg_ℤ f = omega (arith, ints, cramer_y a b c d, mul-neg (d.y -ℤ c.y) f) in
    let to_one : t ≤ℤ w = omega (arith, ints, orientation-first a b c d, second.0) in
    let on_second = point_along-on c d (neg_ℤ f) w left (omega (arith, ints, first.0)) (omega (arith, ints, orientation-second a b c d, first.1)) in
    record {
      positive = left;
      from_zero = second.1;
      to_one = to_one;
      on_first = point_along-on a b t w left second.1 to_one;
      on_second = rw (same_x, same_y) on_second;
    }

turn-turned : (a b c d : Point) → turn a b d c ≡ neg_ℤ (turn a b c d)
turn-turned a b c d = rw (diff_of a.x, diff_of a.y, diff_of b.x, diff_of b.y, diff_of c.x, diff_of c.y, diff_of d.x, diff_of d.y) (simp diffs (diff_same _ _ _ _ (omega arith)))

-- the ends of the second may change places
second_turned : (a b c d : Point) (part whole : ℤ) → MeetsAlong a b d c part whole → MeetsAlong a b c d part whole
second_turned a b c d part whole meets = record {
  positive = meets.positive;
  from_zero = meets.from_zero;
  to_one = meets.to_one;
  on_first = meets.on_first;
  on_second = turned_on d c (point_along a b part whole meets.positive) meets.on_second;
}

-- and where it turns right
pub crossing_right : (a b c d : Point) → turn a b c d <ℤ pos 0 → (LieAside a b c d → ⊥) → (LieAside c d a b → ⊥) → MeetsAlong a b c d (neg_ℤ (orientation c d a)) (neg_ℤ (turn a b c d))
crossing_right a b c d right over_first over_second =
    let left : pos 0 <ℤ turn a b d c = omega (arith, ints, turn-turned a b c d) in
    let turned = crossing_left a b d c left
    (λ h. over_first (turned_beyond (pos 0) (orientation a b d) (orientation a b c) h))
    (λ h. over_second (negated_beyond (orientation c d a) (orientation c d b) (orientation d c a) (orientation d c b) (orientation-turned c d a) (orientation-turned c d b) h)) in
    rw (orientation-turned c d a, turn-turned a b c d) at (second_turned a b c d (orientation d c a) (turn a b d c) turned)

shared_along : (a b c d : Point) (part whole : ℤ) → MeetsAlong a b c d part whole → Share a b c d
shared_along a b c d part whole meets = (point_along a b part whole meets.positive, (meets.on_first, meets.on_second))

-- where the two aren't parallel
pub crossing : (a b c d : Point) → (turn a b c d ≡ pos 0 → ⊥) → (LieAside a b c d → ⊥) → (LieAside c d a b → ⊥) → Share a b c d
crossing a b c d apart over_first over_second = by_lt_z (pos 0) (turn a b c d)
    (λ left. shared_along a b c d (orientation c d a) (turn a b c d) (crossing_left a b c d left over_first over_second))
    (λ h. by_lt_z (turn a b c d) (pos 0)
    (λ right. shared_along a b c d (neg_ℤ (orientation c d a)) (neg_ℤ (turn a b c d)) (crossing_right a b c d right over_first over_second))
    (λ g. absurd (apart (omega (arith, ints)))))
