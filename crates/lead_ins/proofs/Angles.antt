-- What lies inside an angle, by the order of directions from west.
use Rattle.std.proofs.Common.{◌⊎◌, inl, inr}
use Rattle.nest_base.specs.declared.places.Point.{Point}
use Rattle.nest_base.specs.Turn.{IsInsideAngle}
use Rattle.nest_base.specs.Angles.{IsDirection, IsBeforeByAngle, within, before_west, past_west}
use Rattle.nest_base.proofs.Angles.{inside-between}

module _ (a d b : Point) (is_a : IsDirection a) (is_d : IsDirection d) (is_b : IsDirection b) where
  pub inside_from_both : IsBeforeByAngle a b → IsBeforeByAngle a d → IsBeforeByAngle d b → IsInsideAngle a d b
  inside_from_both order after before = (inside-between a d b is_a is_d is_b).1 (within order after before)

  pub inside_from_one : (IsBeforeByAngle a b → ⊥) → IsBeforeByAngle a d ⊎ IsBeforeByAngle d b → IsInsideAngle a d b
  inside_from_one over (inl after) = (inside-between a d b is_a is_d is_b).1 (before_west over after)
  inside_from_one over (inr before) = (inside-between a d b is_a is_d is_b).1 (past_west over before)

  pub both_from_inside : IsBeforeByAngle a b → IsInsideAngle a d b → IsBeforeByAngle a d × IsBeforeByAngle d b
  both_from_inside order inside = elim ((inside-between a d b is_a is_d is_b).0 inside) [
    | within _ after before ↦ (after, before)
    | before_west over _ ↦ absurd (over order)
    | past_west over _ ↦ absurd (over order)
  ]

  pub one_from_inside : (IsBeforeByAngle a b → ⊥) → IsInsideAngle a d b → IsBeforeByAngle a d ⊎ IsBeforeByAngle d b
  one_from_inside over inside = elim ((inside-between a d b is_a is_d is_b).0 inside) [
    | within order _ _ ↦ absurd (over order)
    | before_west _ after ↦ inl after
    | past_west _ before ↦ inr before
  ]
