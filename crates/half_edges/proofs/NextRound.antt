-- Half-edges that stand next to each other in the rotation of a vertex.
use Rattle.std.proofs.Common.{arith, ◌≡◌, ℕ, ◌+◌, ◌<◌, ◌⊎◌, inl, inr, List, Some, length, slice_get, sym, ap, subst, ◌∙◌}
use Rattle.std.specs.Prelude.{◌↔◌, All}
use Rattle.std.proofs.lemmas.Bool.{cases_lt, cases_order}
use Rattle.std.proofs.lemmas.Option.{slice_get_within}
use Rattle.nest_base.specs.declared.places.Point.{Point}
use Rattle.nest_base.specs.declared.places.Edge.{Edge}
use Rattle.nest_base.specs.Plane.{HalfEdge, heading}
use Rattle.nest_base.specs.Order.{IsBefore}
use Rattle.nest_base.specs.Turn.{IsInsideAngle}
use Rattle.nest_base.specs.Angles.{IsDirection, IsBeforeByAngle, within, before_west, past_west}
use Rattle.nest_base.proofs.Angles.{inside-between, angle_cmp-less}
use Rattle.plate_sides.specs.HalfEdges.{Leaves, IsVertex, IsNextCcw}
use Rattle.half_edges.specs.Rotations.{IsBeforeRound, IsRotation}
use Rattle.half_edges.proofs.OneWay.{heading_is_direction}
use Rattle.half_edges.proofs.Rounds.{IsBeforeFromWest-asym}
use Rattle.nest_base.proofs.ListReads.{one_read, Contains-from_read, read_from_Contains, AllPairs-reads}

abbrev pub AreOrdered : List Edge → Type 0
AreOrdered edges = All (λ (e : Edge). IsBefore e.low e.high) edges

-- of n places, j comes next after i, where after the last place comes the first
abbrev pub IsNextPlace : ℕ → ℕ → ℕ → Type 0
IsNextPlace n i j = (j ≡ i + 1) ⊎ ((i + 1 ≡ n) × (j ≡ 0))

module _ (edges : List Edge) (ordered : AreOrdered edges) (v : Point) (rotation : List HalfEdge) (is_rotation : IsRotation edges v rotation) where
  leaves_at : (i : ℕ) (h : HalfEdge) → slice_get rotation i ≡ Some h → Leaves edges v h
  leaves_at i h at = (is_rotation.are_all h).0 (Contains-from_read rotation i h at)

  direction_at : (i : ℕ) (h : HalfEdge) → slice_get rotation i ≡ Some h → IsDirection (heading h)
  direction_at i h at = heading_is_direction edges h ordered (leaves_at i h at).0

  -- the order of angles, as the rotation has it
  before : (i j : ℕ) (g h : HalfEdge) → slice_get rotation i ≡ Some g → slice_get rotation j ≡ Some h → IsBeforeByAngle (heading g) (heading h) ↔ IsBeforeRound g h
  before i j g h at_i at_j = angle_cmp-less (heading g) (heading h) (direction_at i g at_i) (direction_at j h at_j)

  -- what is met earlier from west on stands earlier in the rotation
  earlier_place : (i j : ℕ) (g h : HalfEdge) → slice_get rotation i ≡ Some g → slice_get rotation j ≡ Some h → IsBeforeByAngle (heading g) (heading h) → i < j
  earlier_place i j g h at_i at_j less =
      let first = (before i j g h at_i at_j).0 less in
      elim (cases_order i j) [
        | inl same ↦
            let one = one_read rotation i g h at_i (ap (slice_get rotation) same ∙ at_j) in
            let loop : IsBeforeRound g g = subst (IsBeforeRound g) (sym one) first in
            absurd (IsBeforeFromWest-asym _ _ loop loop)
        | inr (inl fewer) ↦ fewer
        | inr (inr more) ↦ absurd (IsBeforeFromWest-asym _ _ first (AllPairs-reads IsBeforeRound rotation j i h g is_rotation.in_order more at_j at_i))
      ]

  place_of : (h : HalfEdge) → Leaves edges v h → (i : ℕ) × (slice_get rotation i ≡ Some h)
  place_of h leaves = read_from_Contains rotation h ((is_rotation.are_all h).1 leaves)

  -- where a half-edge leaves v, its rotation isn't empty
  pub some_in_rotation : IsVertex edges v → 0 < length rotation
  some_in_rotation (h, leaves) = let p = place_of h leaves in omega (arith, slice_get_within rotation p.0 h p.1)

  not_among : (i k j : ℕ) → i < k → k < j → j < length rotation → IsNextPlace (length rotation) i j → ⊥
  not_among i k j less more bound (inl next) = omega (arith, next)
  not_among i k j less more bound (inr next) = omega (arith, next.0, next.1)

  -- where the angle between two neighbours holds west, they're the last and the first
  last_of_rotation : (i j : ℕ) (g h : HalfEdge) → slice_get rotation i ≡ Some g → slice_get rotation j ≡ Some h → IsNextPlace (length rotation) i j →
      (IsBeforeByAngle (heading g) (heading h) → ⊥) → (i + 1 ≡ length rotation) × (j ≡ 0)
  last_of_rotation i j g h at_i at_j (inl next) over = absurd (over ((before i j g h at_i at_j).1 (AllPairs-reads IsBeforeRound rotation i j g h is_rotation.in_order (omega (arith, next)) at_i at_j)))
  last_of_rotation i j g h at_i at_j (inr next) over = next

  none_between : (i j : ℕ) (g h : HalfEdge) → slice_get rotation i ≡ Some g → slice_get rotation j ≡ Some h → IsNextPlace (length rotation) i j →
      (d : HalfEdge) → Leaves edges v d → IsInsideAngle (heading g) (heading d) (heading h) → ⊥
  none_between i j g h at_i at_j next d leaves inside =
      let p = place_of d leaves in
      elim ((inside-between (heading g) (heading d) (heading h) (direction_at i g at_i) (direction_at p.0 d p.1) (direction_at j h at_j)).0 inside) [
        | within whole first last ↦
            not_among i p.0 j (earlier_place i p.0 g d at_i p.1 first) (earlier_place p.0 j d h p.1 at_j last) (slice_get_within rotation j h at_j) next
        | before_west over first ↦ omega (arith, earlier_place i p.0 g d at_i p.1 first, slice_get_within rotation p.0 d p.1, last_of_rotation i j g h at_i at_j next over)
        | past_west over last ↦ omega (arith, earlier_place p.0 j d h p.1 at_j last, last_of_rotation i j g h at_i at_j next over)
      ]

  alone : (i j : ℕ) (g h : HalfEdge) → slice_get rotation i ≡ Some g → slice_get rotation j ≡ Some h → IsNextPlace (length rotation) i j →
      h ≡ g → (d : HalfEdge) → Leaves edges v d → d ≡ g
  alone i j g h at_i at_j next same d leaves =
      let p = place_of d leaves in
      let loop = λ (less : IsBeforeRound g g). IsBeforeFromWest-asym _ _ less less in
      let last = last_of_rotation i j g h at_i at_j next (λ less. loop (subst (IsBeforeRound g) same ((before i j g h at_i at_j).0 less))) in
      elim (cases_lt j i) [
        | inl less ↦ absurd (loop (subst (λ (x : HalfEdge). IsBeforeRound x g) same (AllPairs-reads IsBeforeRound rotation j i h g is_rotation.in_order less at_j at_i)))
        | inr least ↦
            let only : p.0 ≡ i = omega (arith, last.0, last.1, least, slice_get_within rotation p.0 d p.1) in
            one_read rotation p.0 d g p.1 (ap (slice_get rotation) only ∙ at_i)
      ]

  pub next_in_rotation : (i j : ℕ) (g h : HalfEdge) → slice_get rotation i ≡ Some g → slice_get rotation j ≡ Some h → IsNextPlace (length rotation) i j → IsNextCcw edges g h
  next_in_rotation i j g h at_i at_j next =
      let from : g.from ≡ v = (leaves_at i g at_i).1 in
      record {
        one = (leaves_at i g at_i).0;
        other = rw from (leaves_at j h at_j);
        none_between = λ d leaves inside. none_between i j g h at_i at_j next d (rw from at leaves) inside;
        same_if_alone = λ same d leaves. alone i j g h at_i at_j next same d (rw from at leaves);
      }
