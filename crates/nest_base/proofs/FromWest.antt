-- The order by angle is the order in which one meets directions who turns from west.
use Rattle.std.proofs.Common.{arith, ◌≡◌, pos, ◌*ℤ◌, ◌<ℤ◌, inl, inr, sym, ap, ◌∙◌}
use Rattle.std.proofs.lemmas.Int.{ints}
use Rattle.nest_base.specs.declared.places.Point.{Point}
use Rattle.nest_base.specs.Plane.{cross_product}
use Rattle.nest_base.specs.Turn.{TurnsLeft, IsSameDirection, below_half, above_half, half, whole, west}
use Rattle.nest_base.specs.Angles.{IsDirection, IsBeforeFromWest}
use Rattle.nest_base.proofs.Signs.{mul_pos, mul_neg_neg, mul_nonneg, mul_nonpos_nonpos, by_sign}
use Rattle.nest_base.proofs.Halves.{IsSouthern, due_west, south, IsNorthern, due_east, north, half-southern, half-northern, not_below, by_half, same_in_half, half-same, southern-from_half, northern-from_half}
use Rattle.nest_base.proofs.Earlier.{IsEarlier}

is_west : (d : Point) → d.y ≡ pos 0 → d.x <ℤ pos 0 → IsSameDirection d west
is_west d level ahead = (omega (arith, ints, level), omega (arith, ints, ahead))

not_west : (d : Point) → IsNorthern d → IsSameDirection d west → ⊥
not_west d (due_east level east) same = omega (arith, ints, level, east, same.1)
not_west d (north up) same = omega (arith, ints, up, same.0)

-- nothing of its half comes before west
not_before_west : (a b : Point) → IsSouthern a → b.y ≡ pos 0 → b.x <ℤ pos 0 → TurnsLeft a b → ⊥
not_before_west a b (due_west level ahead) e w l = omega (arith, ints, l, ap (λ z. a.x *ℤ z) e, ap (λ z. z *ℤ b.x) level)
not_before_west a b (south down) e w l = omega (arith, ints, l, ap (λ z. a.x *ℤ z) e, mul_nonpos_nonpos a.y b.x (omega (arith, ints)) (omega (arith, ints)))

both_southern : (a b : Point) → IsSouthern a → IsSouthern b → TurnsLeft a b → IsBeforeFromWest a b
both_southern a b sa (due_west level ahead) l = absurd (not_before_west a b sa level ahead l)
both_southern a b (due_west level ahead) (south down) l = (λ same. omega (arith, ints, down, same.0), inl (is_west a level ahead))
both_southern a b (south also) (south down) l = (λ same. omega (arith, ints, down, same.0), inr (below_half (omega (arith, ints)) (omega (arith, ints)) l))

southern_northern : (a b : Point) → IsSouthern a → IsNorthern b → (IsSameDirection a b → ⊥) → IsBeforeFromWest a b
southern_northern a b (due_west level ahead) nb other = (not_west b nb, inl (is_west a level ahead))
southern_northern a b (south down) (due_east level east) other =
    (not_west b (due_east level east), inr (half (omega (arith, ints, level), omega (arith, ints, level, east)) (omega (arith, ints))))
southern_northern a b (south down) (north up) other =
    (not_west b (north up), inr (above_half (omega (arith, ints)) (λ same. omega (arith, ints, down, same.0)) other (λ turns. omega (arith, ints, down, turns.1))))

both_northern : (a b : Point) → IsNorthern a → IsNorthern b → TurnsLeft a b → IsBeforeFromWest a b
both_northern a b na (due_east level east) l = absurd (omega (arith, ints, l, ap (λ z. a.x *ℤ z) level, mul_nonneg a.y b.x (not_below a na) (omega (arith, ints))))
both_northern a b na (north up) l =
    (not_west b (north up), inr (above_half (omega (arith, ints)) (not_west a na) (λ same. omega (arith, ints, l, same.0)) (λ turns. omega (arith, ints, l, turns.0))))

-- what comes earlier is met before, who turns from west
pub from_west : (a b : Point) → IsDirection a → IsDirection b → IsEarlier a b → IsBeforeFromWest a b
from_west a b is_a is_b (inl less) = by_half a is_a
    (λ sa. by_half b is_b
    (λ sb. absurd (omega (arith, less, half-southern a sa, half-southern b sb)))
    (λ nb. southern_northern a b sa nb (λ same. omega (arith, less, half-same a b is_a is_b same))))
    (λ na. by_half b is_b
    (λ sb. absurd (omega (arith, less, half-northern a na, half-southern b sb)))
    (λ nb. absurd (omega (arith, less, half-northern a na, half-northern b nb))))
from_west a b is_a is_b (inr (one, left)) = by_half a is_a
    (λ sa. both_southern a b sa (southern-from_half b (sym one ∙ half-southern a sa)) left)
    (λ na. both_northern a b na (northern-from_half b (sym one ∙ half-northern a na)) left)

southern_first : (a b : Point) → IsSouthern a → IsNorthern b → IsEarlier a b
southern_first a b sa nb = inl (omega (arith, half-southern a sa, half-northern b nb))

left_in_south : (a b : Point) → IsSouthern a → IsSouthern b → TurnsLeft a b → IsEarlier a b
left_in_south a b sa sb l = inr (half-southern a sa ∙ sym (half-southern b sb), l)

-- west comes first
west_first : (a b : Point) → IsDirection b → a.y ≡ pos 0 → a.x <ℤ pos 0 → (IsSameDirection b west → ⊥) → IsEarlier a b
west_first a b is_b level ahead other = by_half b is_b low (southern_first a b (due_west level ahead))
  where
    low : IsSouthern b → IsEarlier a b
    low (due_west also w) = absurd (other (is_west b also w))
    low (south down) = left_in_south a b (due_west level ahead) (south down) (omega (arith, ints, mul_neg_neg a.x b.y ahead down, ap (λ z. z *ℤ b.x) level))

-- before a northern direction come the southern ones, and those northern ones that aren't on its left
before_northern : (a b : Point) → IsDirection a → pos 0 <ℤ b.y → (IsSameDirection a b → ⊥) → (TurnsLeft b a × TurnsLeft a west → ⊥) → IsEarlier a b
before_northern a b is_a up other outside = by_half a is_a (λ sa. southern_first a b sa (north up)) is_north
  where
    turned : IsNorthern a → cross_product a b <ℤ pos 0 → ⊥
    turned (due_east level east) right = omega (arith, ints, right, mul_pos a.x b.y east up, ap (λ z. z *ℤ b.x) level)
    turned (north high) right = outside (omega (arith, ints, right), omega (arith, ints, high))

    is_north : IsNorthern a → IsEarlier a b
    is_north na =
        let one = half-northern a na ∙ sym (half-northern b (north up)) in
        by_sign (cross_product a b) (λ left. inr (one, left)) (λ line. absurd (other (same_in_half a b is_a one line))) (λ right. absurd (turned na right))

-- and what is met before comes earlier
pub earlier_from_west : (a b : Point) → IsDirection a → IsDirection b → IsBeforeFromWest a b → IsEarlier a b
earlier_from_west a b is_a is_b (other, inl same) = west_first a b is_b (omega (arith, ints, same.0)) (omega (arith, ints, same.1)) other
earlier_from_west a b is_a is_b (other, inr (below_half l m k)) = left_in_south a b (south (omega (arith, ints, m))) (south (omega (arith, ints, l))) k
earlier_from_west a b is_a is_b (other, inr (half o m)) = southern_first a b (south (omega (arith, ints, m))) (due_east (omega (arith, ints, o.0)) (omega (arith, ints, o.1)))
earlier_from_west a b is_a is_b (other, inr (whole same m)) = absurd (other (omega (arith, ints, same.0), omega (arith, ints, same.1)))
earlier_from_west a b is_a is_b (other, inr (above_half l not_west not_b outside)) = before_northern a b is_a (omega (arith, ints, l)) not_b outside
