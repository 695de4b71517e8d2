-- Lists of spokes: by number, and sorted.
use Rattle.std.proofs.Common.{arith, ◌≡◌, ◌≢◌, inl, inr, ℕ, ◌+◌, ◌*◌, ◌<◌, false, List, [], ◌∷◌, ◌++◌, length, length-append, map, sym, ap, subst, ◌∙◌, IsPermutation, IsSorted}
use Rattle.std.specs.Prelude.{Some, slice_get, Contains, All, AllPairs}
use Rattle.std.specs.Ordering.{is_lt}
use Rattle.std.proofs.lemmas.Bool.{cases_lt, cases_eq}
use Rattle.std.proofs.lemmas.Option.{slice_get_within, get_or_from_slice_get}
use Rattle.std.proofs.lemmas.List.Sorted.{ranks_by, sorted_far, Contains-permutation, IsPermutation-sym}
use Rattle.std.proofs.lemmas.Simd.{map-map}
use Rattle.nest_base.specs.declared.numbers.Side.{Side}
use Rattle.nest_base.specs.declared.places.Edge.{Edge}
use Rattle.nest_base.specs.Plane.{HalfEdge, twin}
use Rattle.nest_base.specs.Order.{IsBefore}
use Rattle.nest_base.proofs.Pairs.{AllPairs-permutation}
use Rattle.plate_edges.specs.Points.{EdgesMeetAtEndsOnly}
use Rattle.plate_sides.specs.HalfEdges.{forth}
use Rattle.half_edges.specs.declared.rotation.Spoke.{Spoke}
use Rattle.half_edges.specs.Numbers.{IsSide}
use Rattle.half_edges.specs.Rotations.{AreAllRound, IsBeforeAllRound}
use Rattle.half_edges.specs.Spokes.{spoke_between, spoke_cmp, AreFirstSpokes, AreSpokes}
use Rattle.nest_base.proofs.ListReads.{one_read, Contains-from_read, read_from_Contains, AllPairs-reads, AllPairs-from_reads, read-map, read_of_map, read_kept, read_pushed}
use Rattle.half_edges.proofs.Numbers.{side_low, side_high, one_side, side_within, side_below}
use Rattle.half_edges.proofs.SpokeOrder.{spoke_cmp-total, round_from_spokes}

-- the spokes of one edge more
pub AreFirstSpokes-more : (edges : List Edge) (k : ℕ) (e : Edge) (spokes : List Spoke) → slice_get edges k ≡ Some e → AreFirstSpokes edges k spokes →
    AreFirstSpokes edges (k + 1) ((spokes ++ spoke_between e.low e.high (2 * k) ∷ []) ++ spoke_between e.high e.low (2 * k + 1) ∷ [])
AreFirstSpokes-more edges k e spokes at first = record { long = long_more; stands = stands }
  where
    low : Spoke
    low = spoke_between e.low e.high (2 * k)

    high : Spoke
    high = spoke_between e.high e.low (2 * k + 1)

    one_more : length (spokes ++ low ∷ []) ≡ 2 * k + 1
    one_more = omega (arith, length-append spokes (low ∷ []), first.long)

    long_more : length ((spokes ++ low ∷ []) ++ high ∷ []) ≡ 2 * (k + 1)
    long_more = omega (arith, length-append (spokes ++ low ∷ []) (high ∷ []), one_more)

    stands : (s : ℕ) (h : HalfEdge) → s < 2 * (k + 1) → IsSide edges s h → slice_get ((spokes ++ low ∷ []) ++ high ∷ []) s ≡ Some (spoke_between h.from h.to s)
    stands s h below is = elim (cases_lt s (2 * k)) [
      | inl old ↦ read_kept (spokes ++ low ∷ []) high s (spoke_between h.from h.to s) (read_kept spokes low s (spoke_between h.from h.to s) (first.stands s h old is))
      | inr rest ↦ elim (cases_eq s (2 * k)) [
        | inl even ↦
            let same : forth e ≡ h = one_side edges s (forth e) h (subst (λ m. IsSide edges m (forth e)) (sym even) (side_low edges k e at)) is in
            let place : s ≡ length spokes = even ∙ sym first.long in
            let there : slice_get (spokes ++ low ∷ []) s ≡ Some low = ap (slice_get (spokes ++ low ∷ [])) place ∙ read_pushed spokes low in
            read_kept (spokes ++ low ∷ []) high s low there ∙ ap (λ m. Some (spoke_between e.low e.high m)) (sym even) ∙ ap (λ (g : HalfEdge). Some (spoke_between g.from g.to s)) same
        | inr other ↦
            let odd : s ≡ 2 * k + 1 = omega arith in
            let same : twin (forth e) ≡ h = one_side edges s (twin (forth e)) h (subst (λ m. IsSide edges m (twin (forth e))) (sym odd) (side_high edges k e at)) is in
            let place : s ≡ length (spokes ++ low ∷ []) = odd ∙ sym one_more in
            ap (slice_get ((spokes ++ low ∷ []) ++ high ∷ [])) place ∙ read_pushed (spokes ++ low ∷ []) high ∙ ap (λ m. Some (spoke_between e.high e.low m)) (sym odd)
            ∙ ap (λ (g : HalfEdge). Some (spoke_between g.from g.to s)) same
      ]
    ]

-- a spoke, and the half-edge of which it is one
record IsSpoke (edges : List Edge) (p : Spoke) : Type 0 where
  half_edge : HalfEdge
  is_side : IsSide edges p.side.0 half_edge
  same : p ≡ spoke_between half_edge.from half_edge.to p.side.0

module _ (edges : List Edge) (spokes : List Spoke) (are : AreSpokes edges spokes) where
  -- the spoke at a place has the number of this place
  at_place : (k : ℕ) (p : Spoke) → slice_get spokes k ≡ Some p → (h : HalfEdge) × IsSide edges k h × (p ≡ spoke_between h.from h.to k)
  at_place k p at =
      let below : k < 2 * length edges = omega (arith, slice_get_within spokes k p at, are.long) in
      let h = side_below edges k below in
      (h.0, h.1, one_read spokes k p (spoke_between h.0.from h.0.to k) at (are.stands k h.0 below h.1))

  is_spoke : (p : Spoke) → Contains spokes p → IsSpoke edges p
  is_spoke p stands =
      let at = read_from_Contains spokes p stands in
      let h = at_place at.0 p at.1 in
      let number : p.side.0 ≡ at.0 = ap (λ (q : Spoke). q.side.0) h.2 in
      record {
        half_edge = h.0;
        is_side = subst (λ m. IsSide edges m h.0) (sym number) h.1;
        same = h.2 ∙ ap (spoke_between h.0.from h.0.to) (sym number);
      }

  -- no number stands twice
  numbers_apart : AllPairs (λ (p q : Spoke). p.side.0 ≢ q.side.0) spokes
  numbers_apart = AllPairs-from_reads (λ (p q : Spoke). p.side.0 ≢ q.side.0) spokes (λ i j p q less at_p at_q same.
      let g = at_place i p at_p in
      let h = at_place j q at_q in
      let one : i ≡ j = sym (ap (λ (r : Spoke). r.side.0) g.2) ∙ same ∙ ap (λ (r : Spoke). r.side.0) h.2 in
      omega (arith, one))

  module _ (sorted : List Spoke) (moved : IsPermutation spokes sorted) (up : IsSorted spoke_cmp sorted) (order : All (λ (e : Edge). IsBefore e.low e.high) edges)
      (pairs : AllPairs EdgesMeetAtEndsOnly edges) where
    abbrev numbers : List ℕ
    numbers = map (λ (p : Spoke). p.side.0) sorted

    still_spoke : (p : Spoke) → Contains sorted p → IsSpoke edges p
    still_spoke p stands = is_spoke p (Contains-permutation sorted spokes p (IsPermutation-sym spokes sorted moved) stands)

    still_apart : AllPairs (λ (p q : Spoke). p.side.0 ≢ q.side.0) sorted
    still_apart = AllPairs-permutation (λ (p q : Spoke). p.side.0 ≢ q.side.0) (λ p q apart same. apart (sym same)) spokes sorted moved numbers_apart

    each : (s : ℕ) → Contains numbers s → (h : HalfEdge) × IsSide edges s h
    each s stands =
        let at = read_from_Contains numbers s stands in
        let p = read_of_map (λ (q : Spoke). q.side.0) sorted at.0 s at.1 in
        let spoke = still_spoke p.0 (Contains-from_read sorted at.0 p.0 p.1) in
        (spoke.half_edge, subst (λ m. IsSide edges m spoke.half_edge) p.2 spoke.is_side)

    whole : (s : ℕ) (h : HalfEdge) → IsSide edges s h → Contains numbers s
    whole s h is =
        let p = spoke_between h.from h.to s in
        let stood : Contains spokes p = Contains-from_read spokes s p (are.stands s h (side_within edges s h is) is) in
        let at = read_from_Contains sorted p (Contains-permutation spokes sorted p moved stood) in
        Contains-from_read numbers at.0 s (read-map (λ (q : Spoke). q.side.0) sorted at.0 p at.1)

    two_in_order : (i j : ℕ) (p q : Spoke) (g h : HalfEdge) → i < j → slice_get sorted i ≡ Some p → slice_get sorted j ≡ Some q → IsSide edges p.side.0 g → IsSide edges q.side.0 h →
        IsBeforeAllRound g h
    two_in_order i j p q g h less at_p at_q is_g is_h =
        let a = still_spoke p (Contains-from_read sorted i p at_p) in
        let b = still_spoke q (Contains-from_read sorted j q at_q) in
        let p_is : p ≡ spoke_between g.from g.to p.side.0 =
        a.same ∙ ap (λ (c : HalfEdge). spoke_between c.from c.to p.side.0) (one_side edges p.side.0 a.half_edge g a.is_side is_g) in
        let q_is : q ≡ spoke_between h.from h.to q.side.0 =
        b.same ∙ ap (λ (c : HalfEdge). spoke_between c.from c.to q.side.0) (one_side edges q.side.0 b.half_edge h b.is_side is_h) in
        let far = sorted_far (λ x y. is_lt (spoke_cmp x y)) (ranks_by spoke_cmp-total (λ (x : Spoke). x)) sorted up i j p (omega arith) (slice_get_within sorted j q at_q) in
        let not_below : is_lt (spoke_cmp q p) ≡ false = rw (get_or_from_slice_get sorted i p p at_p, get_or_from_slice_get sorted j q p at_q) at far in
        let named : is_lt (spoke_cmp (spoke_between h.from h.to q.side.0) (spoke_between g.from g.to p.side.0)) ≡ false =
        sym (ap (λ x. is_lt (spoke_cmp x (spoke_between g.from g.to p.side.0))) q_is) ∙ sym (ap (λ x. is_lt (spoke_cmp q x)) p_is) ∙ not_below in
        round_from_spokes edges order pairs p.side.0 q.side.0 g h (AllPairs-reads (λ (x y : Spoke). x.side.0 ≢ y.side.0) sorted i j p q still_apart less at_p at_q) is_g is_h named

    in_order : AllPairs (λ s t. (g h : HalfEdge) → IsSide edges s g → IsSide edges t h → IsBeforeAllRound g h) numbers
    in_order = AllPairs-from_reads (λ s t. (g h : HalfEdge) → IsSide edges s g → IsSide edges t h → IsBeforeAllRound g h) numbers (λ i j s t less at_s at_t g h is_g is_h.
        let p = read_of_map (λ (r : Spoke). r.side.0) sorted i s at_s in
        let q = read_of_map (λ (r : Spoke). r.side.0) sorted j t at_t in
        two_in_order i j p.0 q.0 g h less p.1 q.1 (subst (λ m. IsSide edges m g) (sym p.2) is_g) (subst (λ m. IsSide edges m h) (sym q.2) is_h))

    AreAllRound-sorted : AreAllRound edges numbers
    AreAllRound-sorted = record { each = each; whole = whole; in_order = in_order }

    -- the numbers of sorted spokes stand by vertex and angle
    pub AreAllRound-sides : (sides : List Side) → sides ≡ map (λ (p : Spoke). p.side) sorted → AreAllRound edges (map (λ (s : Side). s.0) sides)
    AreAllRound-sides sides are_sides =
        subst (AreAllRound edges) (sym (ap (map (λ (s : Side). s.0)) are_sides ∙ map-map (λ (s : Side). s.0) (λ (p : Spoke). p.side) sorted)) AreAllRound-sorted
