-- What the comparison by angle says: one direction comes earlier, or both are level.
use Rattle.std.proofs.Common.{arith, ◌≡◌, ◌<◌, pos, ◌<ℤ◌, ◌⊎◌, inl, inr, sym, ◌∙◌}
use Rattle.std.specs.declared.cmp.Ordering.{Ordering}
use Rattle.std.specs.declared.cmp.Ordering.TheVariants.{Less, Equal, Greater}
use Rattle.std.specs.Ordering.{MatchOrdering, ordering_then, nat_cmp, int_cmp}
use Rattle.std.specs.Cmp.{IsTotalOrder, ranks, int_ranks}
use Rattle.std.proofs.lemmas.Int.{ints}
use Rattle.nest_base.specs.declared.places.Point.{Point}
use Rattle.nest_base.specs.Plane.{cross_product}
use Rattle.nest_base.specs.Turn.{TurnsLeft}
use Rattle.nest_base.specs.Angles.{half_of, angle_cmp}
use Rattle.nest_base.proofs.Rankings.{IsRanking, Ranks, ranked, rank_of, total_by_rank}
use Rattle.nest_base.proofs.Halves.{left_of_first, left_of_second, on_one_line}

-- a is in an earlier half, or one turns left from a to b in their half
abbrev pub IsEarlier : Point → Point → Type 0
IsEarlier a b = (half_of a < half_of b) ⊎ ((half_of a ≡ half_of b) × TurnsLeft a b)

-- a and b are on one line in their half
abbrev pub IsLevel : Point → Point → Type 0
IsLevel a b = (half_of a ≡ half_of b) × (cross_product a b ≡ pos 0)

IsEarlier-asym : (a b : Point) → IsEarlier a b → IsEarlier b a → ⊥
IsEarlier-asym a b (inl h) (inl k) = omega (arith, h, k)
IsEarlier-asym a b (inl h) (inr k) = omega (arith, h, k.0)
IsEarlier-asym a b (inr h) (inl k) = omega (arith, h.0, k)
IsEarlier-asym a b (inr h) (inr k) = omega (arith, ints, h.1, k.1)

IsEarlier-apart : (a b : Point) → IsEarlier a b → IsLevel a b → ⊥
IsEarlier-apart a b (inl h) k = omega (arith, h, k.0)
IsEarlier-apart a b (inr h) k = omega (arith, ints, h.1, k.1)

IsEarlier-trans : (a b c : Point) → IsEarlier a b → IsEarlier b c → IsEarlier a c
IsEarlier-trans a b c (inl h) (inl k) = inl (omega (arith, h, k))
IsEarlier-trans a b c (inl h) (inr k) = inl (omega (arith, h, k.0))
IsEarlier-trans a b c (inr h) (inl k) = inl (omega (arith, h.0, k))
IsEarlier-trans a b c (inr h) (inr k) = inr (h.0 ∙ k.0, left_of_first a b c h.0 k.0 h.1 (omega (arith, ints, k.1)))

IsEarlier-level : (a b c : Point) → IsEarlier a b → IsLevel b c → IsEarlier a c
IsEarlier-level a b c (inl h) k = inl (omega (arith, h, k.0))
IsEarlier-level a b c (inr h) k = inr (h.0 ∙ k.0, left_of_first a b c h.0 k.0 h.1 (omega (arith, ints, k.1)))

level-IsEarlier : (a b c : Point) → IsLevel a b → IsEarlier b c → IsEarlier a c
level-IsEarlier a b c h (inl k) = inl (omega (arith, h.0, k))
level-IsEarlier a b c h (inr k) = inr (h.0 ∙ k.0, left_of_second a b c h.0 k.0 (omega (arith, ints, h.1)) k.1)

-- of two directions one comes earlier than the other, or they are level
pub angles_rank : IsRanking IsEarlier IsLevel
angles_rank = record {
  asym = IsEarlier-asym;
  apart = IsEarlier-apart;
  symm = λ a b h. (sym h.0, omega (arith, ints, h.1));
  before_before = IsEarlier-trans;
  before_level = IsEarlier-level;
  level_before = level-IsEarlier;
  level_level = λ a b c h k. (h.0 ∙ k.0, on_one_line a b c h.0 k.0 h.1 k.1);
}

-- the comparison of halves, and then the one of turns
rank_by : (r t : Ordering) (a b : Point) → MatchOrdering r (half_of a < half_of b) (half_of a ≡ half_of b) (half_of b < half_of a) →
    MatchOrdering t (pos 0 <ℤ cross_product a b) (pos 0 ≡ cross_product a b) (cross_product a b <ℤ pos 0) →
    Ranks IsEarlier IsLevel angles_rank (ordering_then r t) a b
rank_by Less t a b h k = inl h
rank_by Equal Less a b h k = inr (h, k)
rank_by Equal Equal a b h k = (h, sym k)
rank_by Equal Greater a b h k = inr (sym h, omega (arith, ints, k))
rank_by Greater t a b h k = inl h

angle_cmp-ranks : (a b : Point) → Ranks IsEarlier IsLevel angles_rank (angle_cmp a b) a b
angle_cmp-ranks a b = rank_by (nat_cmp (half_of a) (half_of b)) (int_cmp (pos 0) (cross_product a b)) a b (ranks (half_of a) (half_of b)) (int_ranks (pos 0) (cross_product a b))

-- what an answer of the comparison says of two directions
pub rank-angle_cmp : (r : Ordering) (a b : Point) → angle_cmp a b ≡ r → Ranks IsEarlier IsLevel angles_rank r a b
rank-angle_cmp r a b e = rank_of IsEarlier IsLevel angles_rank angle_cmp angle_cmp-ranks r a b e

-- what they are to each other decides the answer
pub angle_cmp-rank : (r : Ordering) (a b : Point) → Ranks IsEarlier IsLevel angles_rank r a b → angle_cmp a b ≡ r
angle_cmp-rank r a b h = ranked IsEarlier IsLevel angles_rank angle_cmp angle_cmp-ranks r a b h

rank_cases : {P : Type 0} (r : Ordering) (a b : Point) → Ranks IsEarlier IsLevel angles_rank r a b → (IsEarlier a b → P) → (IsLevel a b → P) → (IsEarlier b a → P) → P
rank_cases Less a b h less level greater = less h
rank_cases Equal a b h less level greater = level h
rank_cases Greater a b h less level greater = greater h

-- by cases: a comes earlier, both are level, or b comes earlier
pub by_angle : {P : Type 0} (a b : Point) → (IsEarlier a b → P) → (IsLevel a b → P) → (IsEarlier b a → P) → P
by_angle a b less level greater = rank_cases (angle_cmp a b) a b (angle_cmp-ranks a b) less level greater

-- so the comparison is a total order
pub earlier_is_total : IsTotalOrder angle_cmp
earlier_is_total = total_by_rank IsEarlier IsLevel angles_rank angle_cmp angle_cmp-ranks
