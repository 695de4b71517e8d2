-- What lies inside an angle: of three directions, each lies inside the angle from the one before it to the one after it.
use Rattle.std.proofs.Common.{arith, ◌≡◌, ◌<◌, ◌≤◌, ℤ, pos, ◌+ℤ◌, ◌-ℤ◌, ◌*ℤ◌, ◌<ℤ◌, ◌≤ℤ◌, inl, inr, sym, ap, ◌∙◌}
use Rattle.std.proofs.lemmas.Int.{ints, by_lt_z}
use Rattle.nest_base.specs.declared.places.Point.{Point}
use Rattle.nest_base.specs.Plane.{cross_product, dot_product}
use Rattle.nest_base.specs.Turn.{TurnsLeft, IsSameDirection, IsOpposite, IsInsideAngle, below_half, above_half, half, whole}
use Rattle.nest_base.specs.Angles.{IsDirection, half_of}
use Rattle.nest_base.proofs.Differences.{diff_of, diff_same, diffs}
use Rattle.nest_base.proofs.Directions.{cross_product-turned, dot_product-self, IsOpposite-sym, IsSameDirection-sym}
use Rattle.nest_base.proofs.Signs.{mul_pos, mul_nonpos, by_sign}
use Rattle.nest_base.proofs.Halves.{IsSouthern, IsNorthern, half-southern, half-northern, southern-from_half, northern-from_half, by_half, opposite, northern-opposite, left_of_first-north, left_of_first, same_in_half, opposite_across, half-same, cross_product-opposite, cross_product-opposite_left}
use Rattle.nest_base.proofs.Earlier.{IsEarlier}

-- a direction d as seen from a and from b
seen_from : (ax ay bx by dx dy : ℤ) →
    ((bx *ℤ bx) +ℤ (by *ℤ by)) *ℤ ((ax *ℤ dy) -ℤ (ay *ℤ dx))
    ≡ ((ax *ℤ bx) +ℤ (ay *ℤ by)) *ℤ ((bx *ℤ dy) -ℤ (by *ℤ dx)) +ℤ ((ax *ℤ by) -ℤ (ay *ℤ bx)) *ℤ ((bx *ℤ dx) +ℤ (by *ℤ dy))
seen_from ax ay bx by dx dy = rw (diff_of ax, diff_of ay, diff_of bx, diff_of by, diff_of dx, diff_of dy) (simp diffs (diff_same _ _ _ _ (omega arith)))

-- what lies on the left of a direction lies on the right of the opposite one
left_of_opposite : (a b d : Point) → IsOpposite a b → TurnsLeft a d → TurnsLeft d b
left_of_opposite a b d o l = by_lt_z (cross_product b d) (pos 0) (λ right. omega (arith, ints, right))
    (λ at_least. absurd (omega (
      arith,
      ints,
      seen_from a.x a.y b.x b.y d.x d.y,
      mul_pos (dot_product b b) (cross_product a d) (dot_product-self b leads) l,
      mul_nonpos (cross_product b d) (dot_product a b) at_least (omega (arith, ints, o.1)),
      ap (λ z. z *ℤ dot_product b d) o.0,
    )))
  where
    leads : IsDirection b
    leads none = omega (arith, ints, o.1, ap (λ z. a.x *ℤ z) none.0, ap (λ z. a.y *ℤ z) none.1)

right_of_opposite : (a b d : Point) → IsOpposite a b → TurnsLeft d a → TurnsLeft b d
right_of_opposite a b d o r =
    let left = left_of_opposite a b (opposite d) o (omega (arith, ints, r, cross_product-opposite_left d a)) in
    omega (arith, ints, left, cross_product-opposite_left d b)

-- directions on one line are the same or opposite
opposite_unless_same : (a b : Point) → IsDirection a → IsDirection b → cross_product a b ≡ pos 0 → (IsSameDirection a b → ⊥) → IsOpposite a b
opposite_unless_same a b is_a is_b line other = by_half a is_a
    (λ sa. by_half b is_b
    (λ sb. absurd (other (same_in_half a b is_a (half-southern a sa ∙ sym (half-southern b sb)) line)))
    (λ nb. opposite_across a b sa nb line))
    (λ na. by_half b is_b
    (λ sb. IsOpposite-sym b a (opposite_across b a sb na (cross_product-turned a b line)))
    (λ nb. absurd (other (same_in_half a b is_a (half-northern a na ∙ sym (half-northern b nb)) line))))

-- what comes earlier isn't the same
pub earlier_apart : (a b : Point) → IsDirection a → IsDirection b → IsEarlier a b → IsSameDirection a b → ⊥
earlier_apart a b is_a is_b (inl less) same = omega (arith, less, half-same a b is_a is_b same)
earlier_apart a b is_a is_b (inr h) same = omega (arith, ints, h.1, same.0)

half-within : (d : Point) → IsDirection d → (1 ≤ half_of d) × (half_of d ≤ 2)
half-within d some = by_half d some
    (λ low. let h = half-southern d low in (omega (arith, h), omega (arith, h)))
    (λ up. let h = half-northern d up in (omega (arith, h), omega (arith, h)))

southern-from_less : (a b : Point) → IsDirection a → IsDirection b → half_of a < half_of b → IsSouthern a
southern-from_less a b is_a is_b h = southern-from_half a (omega (arith, h, half-within a is_a, half-within b is_b))

northern-from_less : (a b : Point) → IsDirection a → IsDirection b → half_of a < half_of b → IsNorthern b
northern-from_less a b is_a is_b h = northern-from_half b (omega (arith, h, half-within a is_a, half-within b is_b))

-- three directions, two of them southern
two_southern : (a d b : Point) → IsSouthern a → IsSouthern d → IsNorthern b → TurnsLeft a d → (IsSameDirection d b → ⊥) → IsInsideAngle a d b
two_southern a d b sa sd nb l other = by_sign (cross_product a b)
    (λ left. below_half left l (from_last left))
    (λ line. half (opposite_across a b sa nb line) l)
    (λ right. above_half (omega (arith, ints, right)) (λ same. omega (arith, ints, l, same.0)) other (λ turns. omega (arith, ints, l, turns.1)))
  where
    from_last : TurnsLeft a b → TurnsLeft d b
    from_last left =
        let turn = left_of_first-north b (opposite a) (opposite d) nb (northern-opposite a sa) (northern-opposite d sd)
        (omega (arith, ints, left, cross_product-opposite_left a b)) (omega (arith, ints, l, cross_product-opposite a d)) in
        omega (arith, ints, turn, cross_product-opposite_left d b)

-- three directions, two of them northern
two_northern : (a d b : Point) → IsSouthern a → IsNorthern d → IsNorthern b → TurnsLeft d b → (IsSameDirection d a → ⊥) → IsInsideAngle a d b
two_northern a d b sa nd nb l other = by_sign (cross_product a b)
    (λ left. below_half left (from_first (omega (arith, ints, left))) l)
    (λ line. half (opposite_across a b sa nb line) (from_first (omega (arith, ints, line))))
    (λ right. above_half (omega (arith, ints, right)) other (λ same. omega (arith, ints, l, same.0)) (λ turns. omega (arith, ints, l, turns.0)))
  where
    from_first : pos 0 ≤ℤ cross_product a b → TurnsLeft a d
    from_first at_least =
        let turn = left_of_first-north d b (opposite a) nd nb (northern-opposite a sa) l (omega (arith, ints, at_least, cross_product-opposite_left a b)) in
        omega (arith, ints, turn, cross_product-opposite_left a d)

-- of three directions in order the second lies inside the angle from the first to the third
pub inside_in_order : (a d b : Point) → IsDirection a → IsDirection d → IsDirection b → IsEarlier a d → IsEarlier d b → IsInsideAngle a d b
inside_in_order a d b is_a is_d is_b (inl h) (inl k) = absurd (omega (arith, h, k, half-within a is_a, half-within b is_b))
inside_in_order a d b is_a is_d is_b (inl h) (inr k) =
    let nd = northern-from_less a d is_a is_d h in
    two_northern a d b (southern-from_less a d is_a is_d h) nd (northern-from_half b (sym k.0 ∙ half-northern d nd)) k.1 (λ same. earlier_apart a d is_a is_d (inl h) (IsSameDirection-sym d a same))
inside_in_order a d b is_a is_d is_b (inr h) (inl k) =
    let sd = southern-from_less d b is_d is_b k in
    two_southern a d b (southern-from_half a (h.0 ∙ half-southern d sd)) sd (northern-from_less d b is_d is_b k) h.1 (earlier_apart d b is_d is_b (inl k))
inside_in_order a d b is_a is_d is_b (inr h) (inr k) = below_half (left_of_first a d b h.0 k.0 h.1 (omega (arith, ints, k.1))) h.1 k.1

-- where d lies inside the angle from a to b, b lies inside the one from d to a
pub inside_turned : (a d b : Point) → IsDirection a → IsDirection d → IsDirection b → (IsSameDirection a b → ⊥) → IsInsideAngle a d b → IsInsideAngle d b a
inside_turned a d b is_a is_d is_b apart (below_half l m k) =
    above_half m (λ same. omega (arith, ints, k, same.0)) (λ same. omega (arith, ints, l, same.0)) (λ turns. omega (arith, ints, k, turns.1))
inside_turned a d b is_a is_d is_b apart (half o m) =
    let k = left_of_opposite a b d o m in
    above_half m (λ same. omega (arith, ints, k, same.0)) (λ same. omega (arith, ints, o.1, same.1)) (λ turns. omega (arith, ints, o.0, turns.0))
inside_turned a d b is_a is_d is_b apart (whole same m) = absurd (apart same)
inside_turned a d b is_a is_d is_b apart (above_half l not_a not_b outside) = by_sign (cross_product d a) on_left (λ line. half (opposite_unless_same d a is_d is_a line not_a) (across line)) on_right
  where
    across : cross_product d a ≡ pos 0 → TurnsLeft d b
    across line = omega (arith, ints, right_of_opposite a d b (IsOpposite-sym d a (opposite_unless_same d a is_d is_a line not_a)) l)

    on_left : TurnsLeft d a → IsInsideAngle d b a
    on_left m = by_sign (cross_product d b) (λ k. below_half m k l)
        (λ line. absurd (omega (arith, ints, m, left_of_opposite b d a (IsOpposite-sym d b (opposite_unless_same d b is_d is_b line not_b)) l)))
        (λ k. absurd (outside (omega (arith, ints, k), m)))

    on_right : cross_product d a <ℤ pos 0 → IsInsideAngle d b a
    on_right m = above_half (omega (arith, ints, m)) (λ same. not_b (IsSameDirection-sym b d same)) (λ same. apart (IsSameDirection-sym b a same)) (λ turns. omega (arith, ints, l, turns.0))

-- no direction lies inside both angles between two
pub inside_once : (a d b : Point) → (IsSameDirection a b → ⊥) → IsInsideAngle a d b → IsInsideAngle b d a → ⊥
inside_once a d b apart (below_half l m k) (above_half r x y outside) = outside (m, k)
inside_once a d b apart (below_half l m k) (below_half r x y) = omega (arith, ints, l, r)
inside_once a d b apart (below_half l m k) (half o x) = omega (arith, ints, l, o.0)
inside_once a d b apart (below_half l m k) (whole same x) = omega (arith, ints, l, same.0)
inside_once a d b apart (above_half l x y outside) (below_half r m k) = outside (m, k)
inside_once a d b apart (above_half l x y outside) (above_half r z w other) = omega (arith, ints, l, r)
inside_once a d b apart (above_half l x y outside) (half o z) = omega (arith, ints, l, o.0)
inside_once a d b apart (above_half l x y outside) (whole same z) = omega (arith, ints, l, same.0)
inside_once a d b apart (half o m) (below_half r x y) = omega (arith, ints, o.0, r)
inside_once a d b apart (half o m) (above_half r x y outside) = omega (arith, ints, o.0, r)
inside_once a d b apart (half o m) (half p k) = omega (arith, ints, k, left_of_opposite a b d o m)
inside_once a d b apart (half o m) (whole same x) = omega (arith, ints, o.1, same.1)
inside_once a d b apart (whole same m) other = apart same

-- no angle holds its first direction
pub not_inside_first : (a d b : Point) → IsInsideAngle a d b → IsSameDirection d a → ⊥
not_inside_first a d b (below_half l m k) same = omega (arith, ints, m, same.0)
not_inside_first a d b (above_half l not_a not_b outside) same = not_a same
not_inside_first a d b (half o m) same = omega (arith, ints, m, same.0)
not_inside_first a d b (whole s not_a) same = not_a same

-- nor its last one, which is the first where the angle is a whole turn
pub not_inside_last : (a d b : Point) → (IsSameDirection a b → ⊥) → IsInsideAngle a d b → IsSameDirection d b → ⊥
not_inside_last a d b apart (below_half l m k) same = omega (arith, ints, k, same.0)
not_inside_last a d b apart (above_half l not_a not_b outside) same = not_b same
not_inside_last a d b apart (half o m) same = omega (arith, ints, same.0, left_of_opposite a b d o m)
not_inside_last a d b apart (whole s not_a) same = apart s
