-- Segments that leave one place in one direction fold back on each other.
use Rattle.std.proofs.Common.{arith, inl, inr, ℤ, pos, ◌-ℤ◌, ◌*ℤ◌, ◌<ℤ◌, ap}
use Rattle.std.proofs.lemmas.Int.{ints, by_lt_z}
use Rattle.nest_base.specs.declared.places.Point.{Point}
use Rattle.nest_base.specs.Plane.{direction}
use Rattle.nest_base.specs.Turn.{IsSameDirection}
use Rattle.nest_base.proofs.Signs.{by_sign, mul_neg, mul_nonpos}
use Rattle.segment_meeting.specs.Orientation.{LieBeyond}
use Rattle.segment_meeting.specs.Folds.{Folds}

-- where a product is positive its two numbers have one sign
one_sign : (a b : ℤ) → pos 0 <ℤ (a *ℤ b) → LieBeyond (pos 0) a b
one_sign a b up = by_sign a
    (λ above. by_sign b
    (λ above_b. inl (above, above_b))
    (λ none. absurd (omega (arith, ints, mul_nonpos a b (omega (arith, ints)) (omega (arith, ints, none)))))
    (λ below_b. absurd (omega (arith, ints, mul_neg a b above below_b))))
    (λ none. absurd (omega (arith, ints, up, ap (λ z. z *ℤ b) none)))
    (λ below. by_sign b
    (λ above_b. absurd (omega (arith, ints, mul_neg b a above_b below)))
    (λ none. absurd (omega (arith, ints, up, ap (λ z. a *ℤ z) none)))
    (λ below_b. inr (below, below_b)))

moved_beyond : (o u v : ℤ) → LieBeyond (pos 0) (u -ℤ o) (v -ℤ o) → LieBeyond o u v
moved_beyond o u v (inl h) = inl (omega (arith, ints, h), omega (arith, ints, h))
moved_beyond o u v (inr h) = inr (omega (arith, ints, h), omega (arith, ints, h))

-- segments from o in one direction fold back on each other
pub one_direction : (o u v : Point) → IsSameDirection (direction o u) (direction o v) → Folds o u v
one_direction o u v same = record {
  straight = same.0;
  one_way = by_lt_z (pos 0) ((u.x -ℤ o.x) *ℤ (v.x -ℤ o.x))
      (λ up. inl (moved_beyond o.x u.x v.x (one_sign (u.x -ℤ o.x) (v.x -ℤ o.x) up)))
      (λ low. inr (moved_beyond o.y u.y v.y (one_sign (u.y -ℤ o.y) (v.y -ℤ o.y) (omega (arith, ints, same.1)))));
}
