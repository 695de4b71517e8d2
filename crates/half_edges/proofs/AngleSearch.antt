-- Round a vertex half-edges stand by angle, so a search by halves finds the one that leads in a direction.
use Rattle.std.proofs.Common.{arith, ◌≡◌, ◌⊎◌, inl, inr, ℕ, ◌+◌, ◌<◌, ◌≤◌, List, Some, length, slice_get, sym, ap, subst, ◌∙◌}
use Rattle.std.specs.Prelude.{All, AllPairs}
use Rattle.std.specs.Ordering.{ordering_reverse, is_lt, is_gt}
use Rattle.std.specs.declared.cmp.Ordering.TheVariants.{Less, Equal, Greater}
use Rattle.std.proofs.lemmas.Bool.{cases_lt, cases_eq, true≢false}
use Rattle.std.proofs.lemmas.List.Elements.{All-contains}
use Rattle.nest_base.specs.declared.places.Point.{Point}
use Rattle.nest_base.specs.declared.places.Edge.{Edge}
use Rattle.nest_base.specs.Plane.{HalfEdge, heading, direction}
use Rattle.nest_base.specs.Range.{IsWithin, IsEdgeWithin, widest}
use Rattle.nest_base.specs.Turn.{IsSameDirection}
use Rattle.nest_base.specs.Angles.{angle_cmp}
use Rattle.nest_base.proofs.Angles.{angle_cmp-total, angle_cmp-less, angle_cmp-equal}
use Rattle.nest_base.proofs.ListReads.{one_read, read_from_Contains, Contains-from_read, AllPairs-reads}
use Rattle.plate_edges.specs.Points.{EdgesMeetAtEndsOnly}
use Rattle.plate_sides.specs.HalfEdges.{IsVertex, IsHalfEdge, IsHalfEdgeOf, Leaves}
use Rattle.half_edges.specs.Numbers.{half_edges_of, IsSide}
use Rattle.half_edges.specs.Rotations.{IsBeforeRound, IsRotation}
use Rattle.half_edges.proofs.Numbers.{side_from_half_edge}
use Rattle.half_edges.proofs.NextRound.{AreOrdered}
use Rattle.half_edges.proofs.OneWay.{heading_is_direction, leads_on, no_one_way}

-- a vertex lies where its edges do
pub vertex_in_range : (edges : List Edge) (p : Point) → All (IsEdgeWithin widest) edges → IsVertex edges p → IsWithin widest p
vertex_in_range edges p within (h, ((e, stands, is), at)) = subst (IsWithin widest) at (of is)
  where
    both : IsEdgeWithin widest e
    both = All-contains (IsEdgeWithin widest) edges e within stands

    of : IsHalfEdgeOf e h → IsWithin widest h.from
    of (inl forth) = subst (IsWithin widest) (sym (ap (λ (g : HalfEdge). g.from) forth)) both.low
    of (inr back) = subst (IsWithin widest) (sym (ap (λ (g : HalfEdge). g.from) back)) both.high

-- what stands before place `low` comes before the direction, and what stands from place `high` on comes after it
pub record IsParted (rotation : List HalfEdge) (toward : Point) (low high : ℕ) : Type 0 where
  pub within : high ≤ length rotation
  pub before : (j : ℕ) (h : HalfEdge) → j < low → slice_get rotation j ≡ Some h → angle_cmp (heading h) toward ≡ Less
  pub after : (j : ℕ) (h : HalfEdge) → high ≤ j → slice_get rotation j ≡ Some h → angle_cmp (heading h) toward ≡ Greater

-- the half-edge with the number s stands at place k of a rotation, and leads in the direction `way`
pub record IsMet (edges : List Edge) (p : Point) (rotation : List HalfEdge) (k s : ℕ) (way : Point) : Type 0 where
  pub half : HalfEdge
  pub stands : slice_get rotation k ≡ Some half
  pub is_side : IsSide edges s half
  pub leaves : half.from ≡ p
  pub leads : heading half ≡ way

pub met : (edges : List Edge) (vertices : List Point) (p : Point) (rotation : List HalfEdge) (v k s end : ℕ) (way : Point) → IsRotation edges p rotation →
    (h : HalfEdge) × (slice_get rotation k ≡ Some h) × IsSide edges s h → slice_get vertices v ≡ Some p → ((h : HalfEdge) → IsSide edges s h → slice_get vertices end ≡ Some h.to) →
    ((o q : Point) → slice_get vertices v ≡ Some o → slice_get vertices end ≡ Some q → way ≡ direction o q) → IsMet edges p rotation k s way
met edges vertices p rotation v k s end way is_rotation (h, stands, is) at ends ways =
    let from : h.from ≡ p = ((is_rotation.are_all h).0 (Contains-from_read rotation k h stands)).1 in
    record { half = h; stands = stands; is_side = is; leaves = from; leads = ap (λ (o : Point). direction o h.to) from ∙ sym (ways p h.to at (ends h is)) }

module _ (edges : List Edge) (ordered : AreOrdered edges) (v : Point) (rotation : List HalfEdge) (is_rotation : IsRotation edges v rotation) (toward : Point) where
  leaves_at : (i : ℕ) (h : HalfEdge) → slice_get rotation i ≡ Some h → Leaves edges v h
  leaves_at i h at = (is_rotation.are_all h).0 (Contains-from_read rotation i h at)

  rising : (i j : ℕ) (g h : HalfEdge) → i < j → slice_get rotation i ≡ Some g → slice_get rotation j ≡ Some h → angle_cmp (heading g) (heading h) ≡ Less
  rising i j g h less at_i at_j =
      (angle_cmp-less (heading g) (heading h) (heading_is_direction edges g ordered (leaves_at i g at_i).0) (heading_is_direction edges h ordered (leaves_at j h at_j).0)).1
      (AllPairs-reads IsBeforeRound rotation i j g h is_rotation.in_order less at_i at_j)

  -- the search goes on behind a half-edge that comes before the direction
  pub go_behind : (low high k s : ℕ) (way : Point) → IsParted rotation toward low high → IsMet edges v rotation k s way → Less ≡ angle_cmp way toward → IsParted rotation toward (k + 1) high
  go_behind low high k s way parted meets is_less = record {
    within = parted.within;
    before = λ j g below at_j. of j g (cases_lt j k) below at_j;
    after = parted.after;
  }
    where
      h : HalfEdge
      h = meets.half

      at : slice_get rotation k ≡ Some h
      at = meets.stands

      less : angle_cmp (heading h) toward ≡ Less
      less = ap (λ d. angle_cmp d toward) meets.leads ∙ sym is_less

      of : (j : ℕ) (g : HalfEdge) → (j < k) ⊎ (k ≤ j) → j < k + 1 → slice_get rotation j ≡ Some g → angle_cmp (heading g) toward ≡ Less
      of j g (inl earlier) below at_j = angle_cmp-total.trans (heading g) (heading h) toward (rising j k g h earlier at_j at) less
      of j g (inr least) below at_j =
          let here : k ≡ j = omega arith in
          subst (λ (d : HalfEdge). angle_cmp (heading d) toward ≡ Less) (one_read rotation j h g (ap (slice_get rotation) (sym here) ∙ at) at_j) less

  -- and before one that comes after it
  pub go_before : (low high k s : ℕ) (way : Point) → IsParted rotation toward low high → k < high → IsMet edges v rotation k s way → Greater ≡ angle_cmp way toward → IsParted rotation toward low k
  go_before low high k s way parted inside meets is_greater = record {
    within = omega (arith, parted.within);
    before = parted.before;
    after = λ j g least at_j. of j g (cases_lt k j) least at_j;
  }
    where
      h : HalfEdge
      h = meets.half

      at : slice_get rotation k ≡ Some h
      at = meets.stands

      greater : angle_cmp (heading h) toward ≡ Greater
      greater = ap (λ d. angle_cmp d toward) meets.leads ∙ sym is_greater

      turned : angle_cmp toward (heading h) ≡ Less
      turned = angle_cmp-total.antisymm toward (heading h) ∙ ap ordering_reverse greater

      of : (j : ℕ) (g : HalfEdge) → (k < j) ⊎ (j ≤ k) → k ≤ j → slice_get rotation j ≡ Some g → angle_cmp (heading g) toward ≡ Greater
      of j g (inl later) least at_j =
          angle_cmp-total.antisymm (heading g) toward ∙ ap ordering_reverse (angle_cmp-total.trans toward (heading h) (heading g) turned (rising k j h g later at at_j))
      of j g (inr most) least at_j =
          let here : k ≡ j = omega arith in
          subst (λ (d : HalfEdge). angle_cmp (heading d) toward ≡ Greater) (one_read rotation j h g (ap (slice_get rotation) (sym here) ∙ at) at_j) greater

-- where nothing is left none leads in the direction
pub none_toward : (edges : List Edge) (rotation : List HalfEdge) (toward : Point) (low high : ℕ) (h : HalfEdge) → IsRotation edges h.from rotation → IsParted rotation toward low high → high ≤ low →
    Leaves edges h.from h → angle_cmp (heading h) toward ≡ Equal → ⊥
none_toward edges rotation toward low high h is_rotation parted over leaves equal =
    let j = read_from_Contains rotation h ((is_rotation.are_all h).1 leaves) in
    elim (cases_lt j.0 low) [
      | inl earlier ↦ absurd (true≢false (sym (ap is_lt (parted.before j.0 h earlier j.1)) ∙ ap is_lt equal))
      | inr least ↦ absurd (true≢false (sym (ap is_gt (parted.after j.0 h (omega arith) j.1)) ∙ ap is_gt equal))
    ]

-- half-edges that leave one vertex by one angle are one
pub one_leads : (edges : List Edge) (s : ℕ) (g h : HalfEdge) (way : Point) → AreOrdered edges → AllPairs EdgesMeetAtEndsOnly edges → IsSide edges s g → IsHalfEdge edges h → g.from ≡ h.from →
    way ≡ heading h → angle_cmp (heading g) way ≡ Equal → g ≡ h
one_leads edges s g h way ordered apart is_g is_h at is_way equal = of (side_from_half_edge edges h is_h)
  where
    same : (t : ℕ) → IsSide edges t h → IsSameDirection (heading g) (heading h)
    same t is_t = (angle_cmp-equal (heading g) (heading h) (leads_on edges s g ordered is_g) (leads_on edges t h ordered is_t)).0 (ap (angle_cmp (heading g)) (sym is_way) ∙ equal)

    of : (t : ℕ) × IsSide edges t h → g ≡ h
    of (t, is_t) = elim (cases_eq s t) [
      | inl one ↦ one_read (half_edges_of edges) s g h is_g (ap (slice_get (half_edges_of edges)) one ∙ is_t)
      | inr other ↦ absurd (no_one_way edges s t g h ordered apart other is_g is_t at (same t is_t))
    ]
