-- When two segments have more than one point in common.
use Rattle.std.proofs.Common.{arith, ◌≡◌, ◌≢◌, ◌⊎◌, ℤ, pos, ◌*ℤ◌, inl, inr, sym, ap, subst}
use Rattle.std.proofs.lemmas.Int.{ints}
use Rattle.nest_base.specs.declared.places.Point.{Point}
use Rattle.nest_base.specs.declared.places.Edge.{Edge}
use Rattle.nest_base.specs.Order.{IsBefore}
use Rattle.nest_base.specs.Plane.{RationalPoint, rational, scaled, numerators, direction, cross_product, IsAt, IsOn}
use Rattle.nest_base.proofs.Differences.{diff_of, diffs, diff_same}
use Rattle.nest_base.proofs.Directions.{cross_product-turned}
use Rattle.nest_base.proofs.Orders.{IsBefore-irrefl}
use Rattle.nest_base.proofs.Points.{turned_on, on_first, on_last}
use Rattle.segment_meeting.specs.OnePoint.{IsOnePoint}
use Rattle.segment_meeting.specs.Orientation.{orientation}
use Rattle.segment_meeting.proofs.Crossing.{orientation-second}
use Rattle.segment_meeting.proofs.Factors.{same_unless, zero_factor}
use Rattle.segment_meeting.proofs.Lines.{side-on, orientation-turned}
use Rattle.segment_meeting.proofs.OnePoint.{one_point, at_place}
use Rattle.plate_edges.proofs.Directions.{along_third, some_direction, side-moved, side-place, in_line}
use Rattle.plate_edges.proofs.Insides.{inside_in_line, not_below, not_above}
use Rattle.plate_edges.proofs.Orders.{by_order, IsBefore-trans}
use Rattle.plate_edges.proofs.Places.{place_at}
use Rattle.plate_edges.proofs.Scaled.{scaled_before, on_scaled}
use Rattle.replay_check.specs.Kinds.{ShareMorePoints}

-- the segments may change places
pub shared_exchanged : (a b c d : Point) → ShareMorePoints a b c d → ShareMorePoints c d a b
shared_exchanged a b c d s = record {
  one = s.one;
  other = s.other;
  one_first = s.one_second;
  one_second = s.one_first;
  other_first = s.other_second;
  other_second = s.other_first;
  apart = s.apart;
}

-- the ends of the first may change places
pub shared_turned : (a b c d : Point) → ShareMorePoints a b c d → ShareMorePoints b a c d
shared_turned a b c d s = record {
  one = s.one;
  other = s.other;
  one_first = turned_on a b s.one s.one_first;
  one_second = s.one_second;
  other_first = turned_on a b s.other s.other_first;
  other_second = s.other_second;
  apart = s.apart;
}

-- segments that share more than one point are parallel
parallel : (a b c d : Point) → ShareMorePoints a b c d → cross_product (direction a b) (direction c d) ≡ pos 0
parallel a b c d s =
    same_unless (cross_product (direction a b) (direction c d)) (pos 0)
    (λ across. s.apart (one_point (record { a = a; b = b; line = 0 }) (record { a = c; b = d; line = 0 }) across s.one s.other
    (s.one_first, s.one_second) (s.other_first, s.other_second)))

-- so the low end of the second lies on the line of the first
pub line_low : (a b c d : Point) → c ≢ d → ShareMorePoints a b c d → orientation a b c ≡ pos 0
line_low a b c d apart s =
    let p = s.one in
    let way = direction (scaled c p.w) (numerators p) in
    let along : cross_product (direction a b) way ≡ pos 0 =
    along_third (direction c d) (direction a b) way (some_direction c d apart)
    (cross_product-turned (direction a b) (direction c d) (parallel a b c d s)) (side-on c d p s.one_second) in
    let moved = rw (side-on a b p s.one_first, along) at (side-moved a.x a.y b.x b.y c.x c.y p.x p.y p.w) in
    zero_factor p.w (orientation a b c) (λ e. omega (arith, ints, e, p.positive)) (omega (arith, ints, moved))

-- and so does its high end
pub line_high : (a b c d : Point) → c ≢ d → ShareMorePoints a b c d → orientation a b d ≡ pos 0
line_high a b c d apart s = omega (arith, ints, orientation-second a b c d, line_low a b c d apart s, parallel a b c d s)

-- a point of two segments, of which the second doesn't begin before the first ends, is the place where it begins
only_end : (a b c d : Point) (p : RationalPoint) → IsBefore a b → IsBefore c d → (IsBefore c b → ⊥) → IsOn p a b → IsOn p c d → IsAt p c
only_end a b c d p order other past on_first on_second =
    by_order (numerators p) (scaled c p.w)
    (λ less. absurd (not_below (scaled c p.w) (numerators p) (scaled d p.w) (scaled_before c d p.w p.positive other)
    (on_scaled p c d on_second) less))
    (λ same. same)
    (λ more. absurd (not_above (scaled a p.w) (numerators p) (scaled b p.w) (scaled_before a b p.w p.positive order)
    (on_scaled p a b on_first) (past_b more)))
  where
    past_b : IsBefore (scaled c p.w) (numerators p) → IsBefore (scaled b p.w) (numerators p)
    past_b more = by_order b c
        (λ less. IsBefore-trans (scaled b p.w) (scaled c p.w) (numerators p) (scaled_before b c p.w p.positive less) more)
        (λ same. subst (λ q. IsBefore (scaled q p.w) (numerators p)) (sym same) more)
        (λ greater. absurd (past greater))

-- two points at one place are one
pub at_one_place : (p q : RationalPoint) (c : Point) → IsAt p c → IsAt q c → IsOnePoint p q
at_one_place p q c at_p at_q = record {
  same_x = times p.x q.x p.w q.w c.x (ap (λ (r : Point). r.x) at_p) (ap (λ (r : Point). r.x) at_q);
  same_y = times p.y q.y p.w q.w c.y (ap (λ (r : Point). r.y) at_p) (ap (λ (r : Point). r.y) at_q);
} where
  times : (x y v w n : ℤ) → x ≡ n *ℤ v → y ≡ n *ℤ w → x *ℤ w ≡ y *ℤ v
  times x y v w n e f = rw (e, f, diff_of n, diff_of v, diff_of w) (simp diffs (diff_same _ _ _ _ (omega arith)))

-- so of two segments that share more than one point the second begins before the first ends
pub begins_before : (a b c d : Point) → IsBefore a b → IsBefore c d → ShareMorePoints a b c d → IsBefore c b
begins_before a b c d order other s =
    by_order c b (λ less. less)
    (λ same. absurd (none (λ less. IsBefore-irrefl c b less same)))
    (λ more. absurd (none (λ less. IsBefore-irrefl c c (IsBefore-trans c b c less more) (λ i. c))))
  where
    none : (IsBefore c b → ⊥) → ⊥
    none past = s.apart (at_one_place s.one s.other c
        (only_end a b c d s.one order other past s.one_first s.one_second) (only_end a b c d s.other order other past s.other_first s.other_second))

-- two segments of one line, each of which begins before the other ends
pub record Overlap (a b c d : Point) : Type 0 where
  pub order : IsBefore a b
  pub other : IsBefore c d
  pub low : orientation a b c ≡ pos 0
  pub high : orientation a b d ≡ pos 0
  pub begins : IsBefore c b
  pub begins_other : IsBefore a d

module _ (a b c d : Point) (over : Overlap a b c d) where
  -- the ends of the first differ
  apart : a ≢ b
  apart = IsBefore-irrefl a b over.order

  -- and lie on its line
  a_on : orientation a b a ≡ pos 0
  a_on = side-place a b a (on_first a b)

  b_on : orientation a b b ≡ pos 0
  b_on = side-place a b b (on_last a b)

  -- a place is common to both
  abbrev IsCommon : Point → Type 0
  IsCommon q = IsOn (rational q) a b × IsOn (rational q) c d

  -- the greater of the low ends is
  low_common : (q : Point) × ((q ≡ a) ⊎ (q ≡ c)) × IsCommon q
  low_common = by_order a c
      (λ less. (c, inr (λ i. c), ((inside_in_line a c b over.low less over.begins).0, on_first c d)))
      (λ same. (c, inr (λ i. c), (subst (λ q. IsOn (rational q) a b) same (on_first a b), on_first c d)))
      (λ more. (a, inl (λ i. a), (on_first a b, (inside_in_line c a d (in_line a b c a d apart over.low a_on over.high) more over.begins_other).0)))

  -- and so is the lesser of the high ends
  high_common : (q : Point) × ((q ≡ b) ⊎ (q ≡ d)) × IsCommon q
  high_common = by_order b d
      (λ less. (b, inl (λ i. b), (on_last a b, (inside_in_line c b d (in_line a b c b d apart over.low b_on over.high) over.begins less).0)))
      (λ same. (d, inr (λ i. d), (subst (λ q. IsOn (rational q) a b) same (on_last a b), on_last c d)))
      (λ more. (d, inr (λ i. d), ((inside_in_line a d b over.high over.begins_other more).0, on_last c d)))

  -- each low end comes before each high end
  lows_before_highs : (l h : Point) → (l ≡ a) ⊎ (l ≡ c) → (h ≡ b) ⊎ (h ≡ d) → IsBefore l h
  lows_before_highs l h (inl e) (inl f) = rw (e, f) over.order
  lows_before_highs l h (inl e) (inr f) = rw (e, f) over.begins_other
  lows_before_highs l h (inr e) (inl f) = rw (e, f) over.begins
  lows_before_highs l h (inr e) (inr f) = rw (e, f) over.other

  -- so the two share more than one point
  pub overlap_shared : ShareMorePoints a b c d
  overlap_shared =
      let l = low_common.0 in
      let h = high_common.0 in record {
        one = rational l;
        other = rational h;
        one_first = low_common.2.0;
        one_second = low_common.2.1;
        other_first = high_common.2.0;
        other_second = high_common.2.1;
        apart = λ same. IsBefore-irrefl l h (lows_before_highs l h low_common.1 high_common.1) (place_at l h (at_place (rational l) h same));
      }

-- the ends of m are a and b
abbrev pub IsWay : Point → Point → Edge → Type 0
IsWay a b m = ((m.low ≡ a) × (m.high ≡ b)) ⊎ ((m.low ≡ b) × (m.high ≡ a))

-- the way from a to b shares what it does with its ends in order
in_order_shared : (a b c d : Point) (m : Edge) → IsWay a b m → ShareMorePoints a b c d → ShareMorePoints m.low m.high c d
in_order_shared a b c d m (inl e) s = rw (e.0, e.1) s
in_order_shared a b c d m (inr e) s = rw (e.0, e.1) (shared_turned a b c d s)

-- and the other way round
shared_from_order : (a b c d : Point) (m : Edge) → IsWay a b m → ShareMorePoints m.low m.high c d → ShareMorePoints a b c d
shared_from_order a b c d m (inl e) s = rw (e.0, e.1) at s
shared_from_order a b c d m (inr e) s = shared_turned b a c d (rw (e.0, e.1) at s)

-- a place of its line lies on the line between its ends in order
line_in_order : (a b q : Point) (m : Edge) → IsWay a b m → orientation a b q ≡ pos 0 → orientation m.low m.high q ≡ pos 0
line_in_order a b q m (inl e) line = rw (e.0, e.1) line
line_in_order a b q m (inr e) line = rw (e.0, e.1) (omega (arith, ints, orientation-turned a b q, line))

-- where a way shares more than one point with an edge, the edge begins before the way ends
pub way_ends : (a b : Point) (m e : Edge) → IsBefore m.low m.high → IsWay a b m → IsBefore e.low e.high → ShareMorePoints a b e.low e.high →
    IsBefore e.low m.high
way_ends a b m e order ends other s = begins_before m.low m.high e.low e.high order other (in_order_shared a b e.low e.high m ends s)

-- and the way begins before the edge ends
pub way_begins : (a b : Point) (m e : Edge) → IsBefore m.low m.high → IsWay a b m → IsBefore e.low e.high → ShareMorePoints a b e.low e.high →
    IsBefore m.low e.high
way_begins a b m e order ends other s =
    begins_before e.low e.high m.low m.high other order (shared_exchanged m.low m.high e.low e.high (in_order_shared a b e.low e.high m ends s))

-- on one line that is enough to share more than one point
pub shared_by_way : (a b : Point) (m e : Edge) → IsBefore m.low m.high → IsWay a b m → IsBefore e.low e.high →
    orientation a b e.low ≡ pos 0 → orientation a b e.high ≡ pos 0 → IsBefore e.low m.high → IsBefore m.low e.high → ShareMorePoints a b e.low e.high
shared_by_way a b m e order ends other low high begins begins_other =
    shared_from_order a b e.low e.high m ends (overlap_shared m.low m.high e.low e.high (record {
      order = order;
      other = other;
      low = line_in_order a b e.low m ends low;
      high = line_in_order a b e.high m ends high;
      begins = begins;
      begins_other = begins_other;
    }))
