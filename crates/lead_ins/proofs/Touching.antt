-- What a cut from q to v has in common with a segment from a to b.
use Rattle.std.proofs.Common.{arith, ◌≡◌, ℤ, pos, ◌*ℤ◌, ◌⊎◌, inl, inr, ap, ◌∙◌}
use Rattle.std.proofs.lemmas.Int.{ints, by_lt_z}
use Rattle.nest_base.specs.declared.places.Point.{Point}
use Rattle.nest_base.specs.Plane.{RationalPoint, rational, numerators, scaled, direction, cross_product, IsAt, IsOn, IsBetween}
use Rattle.nest_base.proofs.Directions.{cross_product-turned}
use Rattle.nest_base.proofs.Intervals.{turned_between}
use Rattle.nest_base.proofs.Points.{same_place, on_first, on_last, turned_on, across_place, up_place}
use Rattle.segment_meeting.specs.Folds.{Folds}
use Rattle.segment_meeting.specs.Orientation.{orientation}
use Rattle.segment_meeting.proofs.Between.{only_between, one_way}
use Rattle.segment_meeting.proofs.Factors.{same_or_not}
use Rattle.segment_meeting.proofs.Folding.{folding}
use Rattle.segment_meeting.proofs.Lines.{side-on}
use Rattle.segment_meeting.proofs.OnePoint.{times_zero}
use Rattle.plate_edges.proofs.Deciding.{at_or_not}
use Rattle.plate_edges.proofs.Directions.{along_third, side-place, side-moved, way_along}
use Rattle.plate_edges.proofs.Insides.{on_part}
use Rattle.plate_edges.proofs.Scaled.{place_on, scaled_between}
use Rattle.plate_parts.specs.LeadIns.{TouchesAtMostAt}

-- a common point is not v where v doesn't lie on the segment
pub shared_elsewhere : (v q a b : Point) (p : RationalPoint) → (IsOn (rational v) a b → ⊥) → IsOn p q v → IsOn p a b → TouchesAtMostAt v q a b → ⊥
shared_elsewhere v q a b p off on_cut on touches = off (place_on p v a b (touches p on_cut on) on)

-- where v lies on the segment from a to b, and the cut leaves v in the direction of c, which lies on it too, they touch elsewhere
pub folded : (v q a b c : Point) → IsOn (rational v) a b → IsOn (rational c) a b → Folds v q c → TouchesAtMostAt v q a b → ⊥
folded v q a b c holds on_c fold touches =
    let shared = folding v q c fold in
    let p = shared.0 in
    shared.1.not_near (touches p (turned_on v q p shared.1.first) (on_part a b v c p holds on_c shared.1.second))

-- from m towards x one goes towards a or towards b, where both lie between these
towards : (a m b x : ℤ) → IsBetween a m b → IsBetween a x b → IsBetween m x a ⊎ IsBetween m x b
towards a m b x (inl h) (inl k) = by_lt_z x m (λ low. inl (inr (k.0, omega (arith, ints)))) (λ up. inr (inl (up, k.1)))
towards a m b x (inl h) (inr k) = by_lt_z x m (λ low. inl (inr (omega (arith, ints, h, k), omega (arith, ints)))) (λ up. inr (inl (up, omega (arith, ints, h, k))))
towards a m b x (inr h) (inl k) = by_lt_z x m (λ low. inr (inr (omega (arith, ints, h, k), omega (arith, ints)))) (λ up. inl (inl (up, omega (arith, ints, h, k))))
towards a m b x (inr h) (inr k) = by_lt_z x m (λ low. inr (inr (k.0, omega (arith, ints)))) (λ up. inl (inl (up, k.1)))

-- a point other than v of the cut to v, on a segment on which v lies too
record IsElsewhere (v q a b : Point) (p : RationalPoint) : Type 0 where
  on_cut : IsOn p q v
  on_other : IsOn p a b
  holds : IsOn (rational v) a b
  not_end : IsAt p v → ⊥

module _ (v q a b : Point) (p : RationalPoint) (is : IsElsewhere v q a b p) where
  -- the way from v to it, which leads somewhere
  abbrev way : Point
  way = direction (scaled v p.w) (numerators p)

  way_leads : way.x ≡ pos 0 → way.y ≡ pos 0 → ⊥
  way_leads e f = is.not_end (same_place (omega (arith, ints, e)) (omega (arith, ints, f)))

  -- goes along the cut
  along_cut : cross_product way (direction v q) ≡ pos 0
  along_cut = cross_product-turned (direction v q) way (side-on v q p (turned_on q v p is.on_cut))

  -- and along the segment
  along_segment : cross_product way (direction a b) ≡ pos 0
  along_segment =
      cross_product-turned (direction a b) way
      (omega (arith, ints, side-moved a.x a.y b.x b.y v.x v.y p.x p.y p.w, side-on a b p is.on_other, times_zero p.w (orientation a b v) (side-place a b v is.holds)))

  -- the segment isn't a place
  segment_leads : (direction a b).x ≡ pos 0 → (direction a b).y ≡ pos 0 → ⊥
  segment_leads e f = is.not_end (same_place
      (one a.x b.x v.x p.x (omega (arith, ints, e)) (across_place v a b is.holds) is.on_other.between_x)
      (one a.y b.y v.y p.y (omega (arith, ints, f)) (up_place v a b is.holds) is.on_other.between_y))
    where
      one : (l m n x : ℤ) → l ≡ m → IsBetween l n m → IsBetween (l *ℤ p.w) x (m *ℤ p.w) → x ≡ n *ℤ p.w
      one l m n x same n_between x_between =
          only_between (l *ℤ p.w) x (m *ℤ p.w) (ap (λ z. z *ℤ p.w) same) x_between ∙ ap (λ z. z *ℤ p.w) (sym_of (only_between l n m same n_between))
        where
          sym_of : n ≡ l → l ≡ n
          sym_of e = omega (arith, ints, e)

  -- so each place of the segment lies on the line of the cut
  straight : (c : Point) → IsOn (rational c) a b → orientation v q c ≡ pos 0
  straight c on_c =
      along_third (direction a b) (direction v q) (direction v c) segment_leads
      (cross_product-turned (direction v q) (direction a b) (along_third way (direction v q) (direction a b) way_leads along_cut along_segment))
      (way_along a b v c (side-place a b v is.holds) (side-place a b c on_c))

  -- the cut leaves v in the direction of a, or in that of b
  leaves_across : (p.x ≡ v.x *ℤ p.w → ⊥) → Folds v q a ⊎ Folds v q b
  leaves_across apart =
      elim (towards (a.x *ℤ p.w) (v.x *ℤ p.w) (b.x *ℤ p.w) p.x (scaled_between a.x v.x b.x p.w p.positive (across_place v a b is.holds)) is.on_other.between_x) [
        | inl to_a ↦ inl (record { straight = straight a (on_first a b); one_way = inl (one_way v.x q.x a.x p.w p.x p.positive apart along to_a) })
        | inr to_b ↦ inr (record { straight = straight b (on_last a b); one_way = inl (one_way v.x q.x b.x p.w p.x p.positive apart along to_b) })
      ]
    where
      along : IsBetween (v.x *ℤ p.w) p.x (q.x *ℤ p.w)
      along = turned_between (q.x *ℤ p.w) p.x (v.x *ℤ p.w) is.on_cut.between_x

  leaves_up : (p.y ≡ v.y *ℤ p.w → ⊥) → Folds v q a ⊎ Folds v q b
  leaves_up apart =
      elim (towards (a.y *ℤ p.w) (v.y *ℤ p.w) (b.y *ℤ p.w) p.y (scaled_between a.y v.y b.y p.w p.positive (up_place v a b is.holds)) is.on_other.between_y) [
        | inl to_a ↦ inl (record { straight = straight a (on_first a b); one_way = inr (one_way v.y q.y a.y p.w p.y p.positive apart along to_a) })
        | inr to_b ↦ inr (record { straight = straight b (on_last a b); one_way = inr (one_way v.y q.y b.y p.w p.y p.positive apart along to_b) })
      ]
    where
      along : IsBetween (v.y *ℤ p.w) p.y (q.y *ℤ p.w)
      along = turned_between (q.y *ℤ p.w) p.y (v.y *ℤ p.w) is.on_cut.between_y

  leaves_along : Folds v q a ⊎ Folds v q b
  leaves_along = elim (same_or_not p.x (v.x *ℤ p.w)) [
    | inr apart ↦ leaves_across apart
    | inl same ↦ leaves_up (λ level. is.not_end (same_place same level))
  ]

-- where v lies on the segment, and the cut leaves v in the direction of neither end, they touch at most at v
pub apart_from : (v q a b : Point) → IsOn (rational v) a b → (Folds v q a → ⊥) → (Folds v q b → ⊥) → TouchesAtMostAt v q a b
apart_from v q a b holds not_a not_b p on_cut on_other = elim (at_or_not p v) [
  | inl at ↦ at
  | inr elsewhere ↦ elim (leaves_along v q a b p (record { on_cut = on_cut; on_other = on_other; holds = holds; not_end = elsewhere })) [
    | inl fold ↦ absurd (not_a fold)
    | inr fold ↦ absurd (not_b fold)
  ]
]
