-- A half-edge has one next half-edge round its vertex and is the next of one, so a face goes on along one half-edge and comes from one.
use Rattle.std.proofs.Common.{arith, ◌≡◌, ◌⊎◌, inl, inr, List, sym, ap, ◌∙◌}
use Rattle.std.specs.Prelude.{All, AllPairs}
use Rattle.std.proofs.lemmas.Int.{ints}
use Rattle.nest_base.specs.declared.places.Edge.{Edge}
use Rattle.nest_base.specs.Plane.{HalfEdge, twin, heading}
use Rattle.nest_base.specs.Turn.{IsSameDirection, west, whole}
use Rattle.nest_base.specs.Angles.{IsDirection}
use Rattle.nest_base.specs.Order.{IsBefore}
use Rattle.nest_base.proofs.Directions.{IsSameDirection-sym}
use Rattle.nest_base.proofs.InsideAngles.{inside_turned}
use Rattle.plate_edges.specs.Points.{EdgesMeetAtEndsOnly}
use Rattle.plate_sides.specs.HalfEdges.{IsHalfEdge, IsNextCcw}
use Rattle.plate_sides.specs.Links.{IsAlong, IsMarkSide}
use Rattle.plate_nesting.proofs.Corners.{heading_is_direction, one_way_is_one}
use Rattle.plate_nesting.proofs.ThreeWays.{same_or_apart, three_ways}

west_is_direction : IsDirection west
west_is_direction none = omega (arith, ints, none.0)

module _ (edges : List Edge) (in_order : All (λ (e : Edge). IsBefore e.low e.high) edges) (apart : AllPairs EdgesMeetAtEndsOnly edges) where
  -- half-edges that leave one vertex are one, or lead in different directions
  one_or_two_ways : (s t : HalfEdge) → IsHalfEdge edges s → IsHalfEdge edges t → s.from ≡ t.from → (s ≡ t) ⊎ (IsSameDirection (heading s) (heading t) → ⊥)
  one_or_two_ways s t is_s is_t at =
      elim (same_or_apart (heading s) (heading t) (heading_is_direction edges in_order s is_s) (heading_is_direction edges in_order t is_t)) [
        | inl same ↦ inl (one_way_is_one edges in_order apart s t is_s is_t at same)
        | inr differ ↦ inr differ
      ]

  -- one half-edge is next
  pub next_is_one : (s t u : HalfEdge) → IsNextCcw edges s t → IsNextCcw edges s u → t ≡ u
  next_is_one s t u n m =
      of (one_or_two_ways s t n.one n.other.0 (sym n.other.1)) (one_or_two_ways s u n.one m.other.0 (sym m.other.1))
      (one_or_two_ways t u n.other.0 m.other.0 (n.other.1 ∙ sym m.other.1))
    where
      between : (IsSameDirection (heading s) (heading t) → ⊥) → (IsSameDirection (heading s) (heading u) → ⊥) → (IsSameDirection (heading t) (heading u) → ⊥) → ⊥
      between s_t s_u t_u =
          elim (three_ways (heading s) (heading t) (heading u) (heading_is_direction edges in_order s n.one) (heading_is_direction edges in_order t n.other.0)
          (heading_is_direction edges in_order u m.other.0) s_t s_u t_u) [
            | inl inside ↦ m.none_between t n.other inside
            | inr inside ↦ n.none_between u m.other inside
          ]

      of : (s ≡ t) ⊎ (IsSameDirection (heading s) (heading t) → ⊥) → (s ≡ u) ⊎ (IsSameDirection (heading s) (heading u) → ⊥) →
          (t ≡ u) ⊎ (IsSameDirection (heading t) (heading u) → ⊥) → t ≡ u
      of (inl alone) y z = sym alone ∙ sym (n.same_if_alone (sym alone) u m.other)
      of (inr s_t) (inl alone) z = m.same_if_alone (sym alone) t n.other ∙ alone
      of (inr s_t) (inr s_u) (inl same) = same
      of (inr s_t) (inr s_u) (inr t_u) = absurd (between s_t s_u t_u)

  -- and it's next of one
  pub next_is_of_one : (s u t : HalfEdge) → IsNextCcw edges s t → IsNextCcw edges u t → s ≡ u
  next_is_of_one s u t n m =
      of (one_or_two_ways t s n.other.0 n.one n.other.1) (one_or_two_ways t u m.other.0 m.one m.other.1) (one_or_two_ways s u n.one m.one at)
    where
      at : s.from ≡ u.from
      at = sym n.other.1 ∙ m.other.1

      between : (IsSameDirection (heading t) (heading s) → ⊥) → (IsSameDirection (heading t) (heading u) → ⊥) → (IsSameDirection (heading s) (heading u) → ⊥) → ⊥
      between t_s t_u s_u =
          let is_s : IsDirection (heading s) = heading_is_direction edges in_order s n.one in
          let is_t : IsDirection (heading t) = heading_is_direction edges in_order t n.other.0 in
          let is_u : IsDirection (heading u) = heading_is_direction edges in_order u m.one in
          elim (three_ways (heading t) (heading s) (heading u) is_t is_s is_u t_s t_u s_u) [
            | inl inside ↦ n.none_between u (m.one, sym at) (inside_turned (heading t) (heading s) (heading u) is_t is_s is_u t_u inside)
            | inr inside ↦ m.none_between s (n.one, at) (inside_turned (heading t) (heading u) (heading s) is_t is_u is_s t_s inside)
          ]

      of : (t ≡ s) ⊎ (IsSameDirection (heading t) (heading s) → ⊥) → (t ≡ u) ⊎ (IsSameDirection (heading t) (heading u) → ⊥) →
          (s ≡ u) ⊎ (IsSameDirection (heading s) (heading u) → ⊥) → s ≡ u
      of (inl alone) y z = sym (n.same_if_alone alone u (m.one, sym at))
      of (inr t_s) (inl alone) z = m.same_if_alone alone s (n.one, at)
      of (inr t_s) (inr t_u) (inl same) = same
      of (inr t_s) (inr t_u) (inr s_u) = absurd (between t_s t_u s_u)

  -- a half-edge leads along to one half-edge
  pub along_is_one : (s t u : HalfEdge) → IsAlong edges s t → IsAlong edges s u → t ≡ u
  along_is_one s t u l k = next_is_of_one t u (twin s) l.1 k.1

  -- and one leads along to it
  pub along_is_of_one : (s t u : HalfEdge) → IsAlong edges s u → IsAlong edges t u → s ≡ t
  along_is_of_one s t u l k = ap twin (next_is_one u (twin s) (twin t) l.1 k.1)

  -- a vertex has one mark side
  pub mark_side_is_one : (m n : HalfEdge) → IsMarkSide edges m → IsMarkSide edges n → m.from ≡ n.from → m ≡ n
  mark_side_is_one m n one other at =
      of (one_or_two_ways m n one.is_side other.is_side at) (same_or_apart (heading m) west is_m west_is_direction)
      (same_or_apart (heading n) west is_n west_is_direction)
    where
      is_m : IsDirection (heading m)
      is_m = heading_is_direction edges in_order m one.is_side

      is_n : IsDirection (heading n)
      is_n = heading_is_direction edges in_order n other.is_side

      between : (IsSameDirection (heading m) (heading n) → ⊥) → (IsSameDirection (heading m) west → ⊥) → (IsSameDirection (heading n) west → ⊥) → ⊥
      between m_n m_west n_west =
          let west_m : IsSameDirection west (heading m) → ⊥ = λ same. m_west (IsSameDirection-sym west (heading m) same) in
          let west_n : IsSameDirection west (heading n) → ⊥ = λ same. n_west (IsSameDirection-sym west (heading n) same) in
          elim (three_ways west (heading m) (heading n) west_is_direction is_m is_n west_m west_n m_n) [
            | inl inside ↦ one.last n (other.is_side, sym at) (inside_turned west (heading m) (heading n) west_is_direction is_m is_n west_n inside)
            | inr inside ↦ other.last m (one.is_side, at) (inside_turned west (heading n) (heading m) west_is_direction is_n is_m west_m inside)
          ]

      of : (m ≡ n) ⊎ (IsSameDirection (heading m) (heading n) → ⊥) → IsSameDirection (heading m) west ⊎ (IsSameDirection (heading m) west → ⊥) →
          IsSameDirection (heading n) west ⊎ (IsSameDirection (heading n) west → ⊥) → m ≡ n
      of (inl same) y z = same
      of (inr m_n) (inl m_west) z =
          absurd (one.last n (other.is_side, sym at) (whole m_west (λ same. m_n (IsSameDirection-sym (heading n) (heading m) same))))
      of (inr m_n) (inr m_west) (inl n_west) = absurd (other.last m (one.is_side, at) (whole n_west m_n))
      of (inr m_n) (inr m_west) (inr n_west) = absurd (between m_n m_west n_west)
