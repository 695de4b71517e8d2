-- The orders of half-edges round a vertex, and of all, are strict; so a vertex has one rotation.
use Rattle.std.proofs.Common.{arith, ◌≡◌, inl, inr, pos, ◌<ℤ◌, ◌*ℤ◌, neg_ℤ, List}
use Rattle.std.proofs.lemmas.Int.{ints, by_lt_z}
use Rattle.nest_base.specs.declared.places.Point.{Point}
use Rattle.nest_base.specs.declared.places.Edge.{Edge}
use Rattle.nest_base.specs.Plane.{HalfEdge, cross_product}
use Rattle.nest_base.specs.Turn.{IsSameDirection, IsInsideAngle, below_half, above_half, half, whole, west}
use Rattle.nest_base.specs.Angles.{IsBeforeFromWest}
use Rattle.nest_base.proofs.Differences.{mul-neg, neg-mul}
use Rattle.nest_base.proofs.Signs.{mul_pos, mul_nonneg}
use Rattle.plate_edges.proofs.Lists.{same_enumeration}
use Rattle.plate_sides.specs.HalfEdges.{Leaves}
use Rattle.nest_base.proofs.Orders.{IsMarkedBefore-asym}
use Rattle.half_edges.specs.Rotations.{IsRotation, IsBeforeRound, IsBeforeAllRound}

-- two northern directions on one line are one direction
same_north : (a b : Point) → pos 0 <ℤ a.y → pos 0 <ℤ b.y → cross_product a b ≡ pos 0 → IsSameDirection a b
same_north a b p q line = (
  line,
  by_lt_z a.x (pos 0)
      (λ west_a. by_lt_z b.x (pos 0)
      (λ west_b. omega (arith, ints, up, mul_pos (neg_ℤ a.x) (neg_ℤ b.x) (omega (arith, ints)) (omega (arith, ints)), mul-neg (neg_ℤ a.x) b.x, neg-mul a.x b.x))
      (λ east_b. absurd (omega (arith, ints, line, mul_pos (neg_ℤ a.x) b.y (omega (arith, ints)) q, neg-mul a.x b.y, mul_nonneg a.y b.x (omega (arith, ints)) (omega (arith, ints))))))
      (λ east_a. by_lt_z b.x (pos 0)
      (λ west_b. absurd (omega (arith, ints, line, mul_pos a.y (neg_ℤ b.x) p (omega (arith, ints)), mul-neg a.y b.x, mul_nonneg a.x b.y (omega (arith, ints)) (omega (arith, ints)))))
      (λ east_b. omega (arith, ints, up, mul_nonneg a.x b.x (omega (arith, ints)) (omega (arith, ints))))),
)
  where
    up : pos 0 <ℤ (a.y *ℤ b.y)
    up = mul_pos a.y b.y p q

both_inside : (a b : Point) → (IsSameDirection a west → ⊥) → (IsSameDirection b west → ⊥) → IsInsideAngle west a b → IsInsideAngle west b a → ⊥
both_inside a b nw mw (below_half l m n) (below_half o p q) = omega (arith, ints)
both_inside a b nw mw (below_half l m n) (above_half o p q r) = omega (arith, ints)
both_inside a b nw mw (below_half l m n) (half o p) = omega (arith, ints, o.0)
both_inside a b nw mw (below_half l m n) (whole o p) = omega (arith, ints, o.0)
both_inside a b nw mw (above_half h i j k) (below_half o p q) = omega (arith, ints)
both_inside a b nw mw (above_half h i j k) (above_half o p q r) = by_lt_z (pos 0) (cross_product a b)
    (λ left. r (left, h))
    (λ not_left. by_lt_z (cross_product a b) (pos 0)
    (λ right. k (omega (arith, ints), o))
    (λ not_right. j (same_north a b (omega (arith, ints)) (omega (arith, ints)) (omega (arith, ints)))))
both_inside a b nw mw (above_half h i j k) (half o p) = omega (arith, ints)
both_inside a b nw mw (above_half h i j k) (whole o p) = nw (omega (arith, ints, o.0), omega (arith, ints, o.1))
both_inside a b nw mw (half l m) (below_half o p q) = omega (arith, ints, l.0)
both_inside a b nw mw (half l m) (above_half o p q r) = omega (arith, ints)
both_inside a b nw mw (half l m) (half o p) = omega (arith, ints, o.0)
both_inside a b nw mw (half l m) (whole o p) = omega (arith, ints, o.0)
both_inside a b nw mw (whole l m) other = mw (omega (arith, ints, l.0), omega (arith, ints, l.1))

pub IsBeforeFromWest-asym : (a b : Point) → IsBeforeFromWest a b → IsBeforeFromWest b a → ⊥
IsBeforeFromWest-asym a b (not_b, inl is_a) (not_a, other) = not_a is_a
IsBeforeFromWest-asym a b (not_b, inr inside) (not_a, inl is_b) = not_b is_b
IsBeforeFromWest-asym a b (not_b, inr inside) (not_a, inr other) = both_inside a b not_a not_b inside other

-- no half-edge comes before itself
pub IsBeforeAllRound-irrefl : (h : HalfEdge) → IsBeforeAllRound h h → ⊥
IsBeforeAllRound-irrefl h (inl before) = IsMarkedBefore-asym h.from h.from before before
IsBeforeAllRound-irrefl h (inr (at, before)) = IsBeforeFromWest-asym _ _ before before

-- the rotations of a vertex are one
pub one_rotation : (edges : List Edge) (v : Point) (rotation other : List HalfEdge) → IsRotation edges v rotation → IsRotation edges v other → rotation ≡ other
one_rotation edges v rotation other is also = same_enumeration IsBeforeRound (Leaves edges v) (λ g h. IsBeforeFromWest-asym _ _) rotation other is also
