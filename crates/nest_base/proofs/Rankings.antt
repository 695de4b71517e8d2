-- Comparisons that don't tell all things apart, as orders.
use Rattle.std.proofs.Common.{arith, ◌≡◌, ℤ, pos, ◌-ℤ◌, refl, subst}
use Rattle.std.specs.declared.cmp.Ordering.{Ordering}
use Rattle.std.specs.declared.cmp.Ordering.TheVariants.{Less, Equal, Greater}
use Rattle.std.specs.Ordering.{MatchOrdering, ordering_reverse, int_cmp}
use Rattle.std.specs.Cmp.{IsTotalOrder}
use Rattle.std.proofs.lemmas.Int.{ints}

-- which things come before which, and which are level
pub record IsRanking {X : Type 0} (before level : X → X → Type 0) : Type 0 where
  pub asym : (x y : X) → before x y → before y x → ⊥
  pub apart : (x y : X) → before x y → level x y → ⊥
  pub symm : (x y : X) → level x y → level y x
  pub before_before : (x y z : X) → before x y → before y z → before x z
  pub before_level : (x y z : X) → before x y → level y z → before x z
  pub level_before : (x y z : X) → level x y → before y z → before x z
  pub level_level : (x y z : X) → level x y → level y z → level x z

module _ {X : Type 0} (before level : X → X → Type 0) (ranking : IsRanking before level) where
  -- r is how x compares to y
  abbrev pub Ranks : Ordering → X → X → Type 0
  Ranks r x y = MatchOrdering r (before x y) (level x y) (before y x)

  -- there is one way to compare the two
  pub one_rank : (r s : Ordering) (x y : X) → Ranks r x y → Ranks s x y → r ≡ s
  one_rank Less Less x y h k = refl
  one_rank Less Equal x y h k = absurd (ranking.apart x y h k)
  one_rank Less Greater x y h k = absurd (ranking.asym x y h k)
  one_rank Equal Less x y h k = absurd (ranking.apart x y k h)
  one_rank Equal Equal x y h k = refl
  one_rank Equal Greater x y h k = absurd (ranking.apart y x k (ranking.symm x y h))
  one_rank Greater Less x y h k = absurd (ranking.asym x y k h)
  one_rank Greater Equal x y h k = absurd (ranking.apart y x h (ranking.symm x y k))
  one_rank Greater Greater x y h k = refl

  turned : (r : Ordering) (x y : X) → Ranks r y x → Ranks (ordering_reverse r) x y
  turned Less x y h = h
  turned Equal x y h = ranking.symm y x h
  turned Greater x y h = h

  -- what is level to x ranks as x does
  moved : (r : Ordering) (x y z : X) → level x y → Ranks r y z → Ranks r x z
  moved Less x y z e h = ranking.level_before x y z e h
  moved Equal x y z e h = ranking.level_level x y z e h
  moved Greater x y z e h = ranking.before_level z y x h (ranking.symm x y e)

  module _ (R : X → X → Ordering) (ranks : (x y : X) → Ranks (R x y) x y) where
    -- what an answer of R says
    pub rank_of : (r : Ordering) (x y : X) → R x y ≡ r → Ranks r x y
    rank_of r x y e = subst (λ s. Ranks s x y) e (ranks x y)

    -- what makes R answer so
    pub ranked : (r : Ordering) (x y : X) → Ranks r x y → R x y ≡ r
    ranked r x y h = one_rank (R x y) r x y (ranks x y) h

    -- a comparison by such a ranking is a total order
    pub total_by_rank : IsTotalOrder R
    total_by_rank = record {
      antisymm = λ x y. ranked (ordering_reverse (R y x)) x y (turned (R y x) x y (ranks y x));
      trans = λ x y z p q. ranked Less x z (ranking.before_before x y z (rank_of Less x y p) (rank_of Less y z q));
      congr = λ x y z p. ranked (R y z) x z (moved (R y z) x y z (rank_of Equal x y p) (ranks y z));
    }

-- numbers compare as zero does to their difference
pub int_cmp-sub : (a b : ℤ) → int_cmp b a ≡ int_cmp (pos 0) (a -ℤ b)
int_cmp-sub a b = grind (arith, ints)
