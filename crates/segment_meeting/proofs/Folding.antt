-- Two segments with an end in common share no other point, unless they fold back on each other.
use Rattle.std.proofs.Common.{arith, ◌≡◌, ℤ, pos, ◌+ℤ◌, ◌-ℤ◌, ◌*ℤ◌, ◌<ℤ◌, ◌⊎◌, inl, inr, ap}
use Rattle.std.specs.Prelude.{neg_ℤ}
use Rattle.std.proofs.lemmas.Int.{ints}
use Rattle.nest_base.specs.declared.places.Point.{Point}
use Rattle.nest_base.specs.Plane.{RationalPoint, IsOn, IsAt}
use Rattle.nest_base.proofs.Differences.{diff_of, diffs, diff_same, mul-neg}
use Rattle.segment_meeting.specs.Orientation.{LieBeyond}
use Rattle.segment_meeting.specs.Folds.{Folds}
use Rattle.segment_meeting.proofs.Factors.{zero_factor}
use Rattle.segment_meeting.proofs.Along.{point_along, point_along-on}

-- a point strictly inside both segments from o
pub record IsInsideBoth (o u v : Point) (p : RationalPoint) : Type 0 where
  pub first : IsOn p o u
  pub second : IsOn p o v
  pub not_near : IsAt p o → ⊥
  pub not_far : IsAt p u → ⊥

-- what is left to u of the point t / (t + r) of the way from o
rest : (o u t r : ℤ) → u *ℤ (t +ℤ r) -ℤ (o *ℤ (t +ℤ r) +ℤ (u -ℤ o) *ℤ t) ≡ r *ℤ (u -ℤ o)
rest o u t r = rw (diff_of o, diff_of u, diff_of t, diff_of r) (simp diffs (diff_same _ _ _ _ (omega arith)))

-- where the ways to u and to v are as r to t, they share the point t / (t + r) of the way to u
inside : (o u v : Point) (t r : ℤ) → pos 0 <ℤ t → pos 0 <ℤ r → (u.x -ℤ o.x) *ℤ t ≡ (v.x -ℤ o.x) *ℤ r → (u.y -ℤ o.y) *ℤ t ≡ (v.y -ℤ o.y) *ℤ r → ((u.x ≡ o.x) × (u.y ≡ o.y) → ⊥) → (p : RationalPoint) × IsInsideBoth o u v p
inside o u v t r far_v far_u same_x same_y some =
    let w = t +ℤ r in
    let positive : pos 0 <ℤ w = omega (arith, ints) in
    let p = point_along o u t w positive in (
      p,
      record {
        first = point_along-on o u t w positive (omega (arith, ints)) (omega (arith, ints));
        second = rw (same_x, same_y) (point_along-on o v r w positive (omega (arith, ints)) (omega (arith, ints)));
        not_near = λ at. some (near o.x u.x (ap (λ q. q.x) at), near o.y u.y (ap (λ q. q.y) at));
        not_far = λ at. some (far o.x u.x (ap (λ q. q.x) at), far o.y u.y (ap (λ q. q.y) at));
      },
    )
  where
    near : (o u : ℤ) → o *ℤ (t +ℤ r) +ℤ (u -ℤ o) *ℤ t ≡ o *ℤ (t +ℤ r) → u ≡ o
    near o u e = let zero = zero_factor t (u -ℤ o) (λ h. omega (arith, ints, h)) (omega (arith, ints, e)) in omega (arith, ints, zero)

    far : (o u : ℤ) → o *ℤ (t +ℤ r) +ℤ (u -ℤ o) *ℤ t ≡ u *ℤ (t +ℤ r) → u ≡ o
    far o u e = let zero = zero_factor r (u -ℤ o) (λ h. omega (arith, ints, h)) (omega (arith, ints, e, rest o u t r)) in omega (arith, ints, zero)

-- segments that fold back on each other share such a point
pub folding : (o u v : Point) → Folds o u v → (p : RationalPoint) × IsInsideBoth o u v p
folding o u v fold = cases fold.one_way
  where
    line : (u.x -ℤ o.x) *ℤ (v.y -ℤ o.y) ≡ (u.y -ℤ o.y) *ℤ (v.x -ℤ o.x)
    line = omega (arith, ints, fold.straight)

    cases : LieBeyond o.x u.x v.x ⊎ LieBeyond o.y u.y v.y → (p : RationalPoint) × IsInsideBoth o u v p
    cases (inl (inl h)) = inside o u v (v.x -ℤ o.x) (u.x -ℤ o.x) (omega (arith, ints, h)) (omega (arith, ints, h)) (omega (arith, ints)) (omega (arith, ints, line)) (λ e. omega (arith, ints, h, e))
    cases (inl (inr h)) = inside o u v (neg_ℤ (v.x -ℤ o.x)) (neg_ℤ (u.x -ℤ o.x)) (omega (arith, ints, h)) (omega (arith, ints, h))
        (omega (arith, ints, mul-neg (u.x -ℤ o.x) (v.x -ℤ o.x), mul-neg (v.x -ℤ o.x) (u.x -ℤ o.x)))
        (omega (arith, ints, line, mul-neg (u.y -ℤ o.y) (v.x -ℤ o.x), mul-neg (v.y -ℤ o.y) (u.x -ℤ o.x))) (λ e. omega (arith, ints, h, e))
    cases (inr (inl h)) = inside o u v (v.y -ℤ o.y) (u.y -ℤ o.y) (omega (arith, ints, h)) (omega (arith, ints, h)) (omega (arith, ints, line)) (omega (arith, ints)) (λ e. omega (arith, ints, h, e))
    cases (inr (inr h)) = inside o u v (neg_ℤ (v.y -ℤ o.y)) (neg_ℤ (u.y -ℤ o.y)) (omega (arith, ints, h)) (omega (arith, ints, h))
        (omega (arith, ints, line, mul-neg (u.x -ℤ o.x) (v.y -ℤ o.y), mul-neg (v.x -ℤ o.x) (u.y -ℤ o.y)))
        (omega (arith, ints, mul-neg (u.y -ℤ o.y) (v.y -ℤ o.y), mul-neg (v.y -ℤ o.y) (u.y -ℤ o.y))) (λ e. omega (arith, ints, h, e))
