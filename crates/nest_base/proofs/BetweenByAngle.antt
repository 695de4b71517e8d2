-- What lies inside an angle is what lies between its directions in the order by angle.
use Rattle.std.specs.Prelude.{◌↔◌}
use Rattle.std.specs.declared.cmp.Ordering.TheVariants.{Less}
use Rattle.nest_base.specs.declared.places.Point.{Point}
use Rattle.nest_base.specs.Turn.{IsSameDirection, IsInsideAngle, whole}
use Rattle.nest_base.specs.Angles.{IsDirection, IsBeforeByAngle, IsBetweenByAngle, within, before_west, past_west}
use Rattle.nest_base.proofs.Directions.{IsSameDirection-sym}
use Rattle.nest_base.proofs.Halves.{same_in_half}
use Rattle.nest_base.proofs.Earlier.{IsEarlier, IsLevel, angles_rank, rank-angle_cmp, angle_cmp-rank, by_angle}
use Rattle.nest_base.proofs.InsideAngles.{inside_in_order, inside_turned, inside_once, not_inside_first, not_inside_last, earlier_apart}

less : (a b : Point) → IsEarlier a b → IsBeforeByAngle a b
less a b h = angle_cmp-rank Less a b h

earlier : (a b : Point) → IsBeforeByAngle a b → IsEarlier a b
earlier a b e = rank-angle_cmp Less a b e

not_less-level : (a b : Point) → IsLevel a b → IsBeforeByAngle a b → ⊥
not_less-level a b level e = angles_rank.apart a b (earlier a b e) level

not_less-later : (a b : Point) → IsEarlier b a → IsBeforeByAngle a b → ⊥
not_less-later a b later e = angles_rank.asym a b (earlier a b e) later

module _ (a d b : Point) (is_a : IsDirection a) (is_d : IsDirection d) (is_b : IsDirection b) where
  not_first : IsInsideAngle a d b → IsLevel a d → ⊥
  not_first inside level = not_inside_first a d b inside (IsSameDirection-sym a d (same_in_half a d is_a level.0 level.1))

  not_last : (IsSameDirection a b → ⊥) → IsInsideAngle a d b → IsLevel d b → ⊥
  not_last apart inside level = not_inside_last a d b apart inside (same_in_half d b is_d level.0 level.1)

  -- where a comes before b, what lies inside comes neither before a nor after b
  between_in_order : IsEarlier a b → IsInsideAngle a d b → IsBetweenByAngle a d b
  between_in_order order inside = by_angle a d after (λ level. absurd (not_first inside level)) (λ first. absurd (not_before first))
    where
      apart : IsSameDirection a b → ⊥
      apart = earlier_apart a b is_a is_b order

      not_before : IsEarlier d a → ⊥
      not_before first =
          let turned = inside_turned d a b is_d is_a is_b (earlier_apart d b is_d is_b (angles_rank.before_before d a b first order)) (inside_in_order d a b is_d is_a is_b first order) in
          inside_once a d b apart inside (inside_turned a b d is_a is_b is_d (λ same. earlier_apart d a is_d is_a first (IsSameDirection-sym a d same)) turned)

      not_after : IsEarlier b d → ⊥
      not_after last =
          inside_once a d b apart inside
          (inside_turned a b d is_a is_b is_d (earlier_apart a d is_a is_d (angles_rank.before_before a b d order last)) (inside_in_order a b d is_a is_b is_d order last))

      after : IsEarlier a d → IsBetweenByAngle a d b
      after first = by_angle d b (λ last. within (less a b order) (less a d first) (less d b last)) (λ level. absurd (not_last apart inside level)) (λ last. absurd (not_after last))

  -- where the angle is a whole turn, all but a itself comes after a or before it
  between_level : IsLevel a b → IsInsideAngle a d b → IsBetweenByAngle a d b
  between_level level inside = by_angle a d (λ first. before_west (not_less-level a b level) (less a d first)) (λ same. absurd (not_first inside same))
      (λ before. past_west (not_less-level a b level) (less d b (angles_rank.before_level d a b before level)))

  -- where b comes before a, what lies inside isn't between them
  between_past_west : IsEarlier b a → IsInsideAngle a d b → IsBetweenByAngle a d b
  between_past_west order inside =
      by_angle a d (λ first. before_west (not_less-later a b order) (less a d first)) (λ level. absurd (not_first inside level))
      (λ before. by_angle d b (λ last. past_west (not_less-later a b order) (less d b last)) (λ level. absurd (not_last apart inside level))
      (λ after. absurd (inside_once a d b apart inside (inside_in_order b d a is_b is_d is_a after before))))
    where
      apart : IsSameDirection a b → ⊥
      apart same = earlier_apart b a is_b is_a order (IsSameDirection-sym a b same)

  between-from_inside : IsInsideAngle a d b → IsBetweenByAngle a d b
  between-from_inside inside = by_angle a b (λ order. between_in_order order inside) (λ level. between_level level inside) (λ order. between_past_west order inside)

  whole_turn : IsLevel a b → (IsSameDirection d a → ⊥) → IsInsideAngle a d b
  whole_turn level other = whole (same_in_half a b is_a level.0 level.1) other

  inside_before_west : (IsBeforeByAngle a b → ⊥) → IsEarlier a d → IsInsideAngle a d b
  inside_before_west not_less first = by_angle a b (λ order. absurd (not_less (less a b order)))
      (λ level. whole_turn level (λ same. earlier_apart a d is_a is_d first (IsSameDirection-sym d a same)))
      (λ order. inside_turned b a d is_b is_a is_d (earlier_apart b d is_b is_d (angles_rank.before_before b a d order first)) (inside_in_order b a d is_b is_a is_d order first))

  inside_past_west : (IsBeforeByAngle a b → ⊥) → IsEarlier d b → IsInsideAngle a d b
  inside_past_west not_less last = by_angle a b (λ order. absurd (not_less (less a b order)))
      (λ level. whole_turn level (earlier_apart d a is_d is_a (angles_rank.before_level d b a last (angles_rank.symm a b level))))
      (λ order.
      let turned = inside_turned d b a is_d is_b is_a (earlier_apart d a is_d is_a (angles_rank.before_before d b a last order)) (inside_in_order d b a is_d is_b is_a last order) in
      inside_turned b a d is_b is_a is_d (λ same. earlier_apart d b is_d is_b last (IsSameDirection-sym b d same)) turned)

  inside-from_between : IsBetweenByAngle a d b → IsInsideAngle a d b
  inside-from_between (within order first last) = inside_in_order a d b is_a is_d is_b (earlier a d first) (earlier d b last)
  inside-from_between (before_west not_less first) = inside_before_west not_less (earlier a d first)
  inside-from_between (past_west not_less last) = inside_past_west not_less (earlier d b last)

  -- for three directions, both are the same
  pub inside_is_between : IsInsideAngle a d b ↔ IsBetweenByAngle a d b
  inside_is_between = (between-from_inside, inside-from_between)
