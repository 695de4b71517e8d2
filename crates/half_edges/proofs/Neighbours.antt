-- The neighbours of a vertex are those to which the half-edges round it lead.
use Rattle.std.proofs.Common.{arith, ◌≡◌, inl, inr, ℕ, ◌+◌, ◌-◌, ◌<◌, ◌≤◌, List, length, take, drop, refl, sym, ap, subst, ◌∙◌, zero-add, length-take, length-drop}
use Rattle.std.specs.Prelude.{Some, slice_get}
use Rattle.std.proofs.lemmas.Bool.{cases_order}
use Rattle.std.proofs.lemmas.Option.{slice_get_within, get_or_from_slice_get}
use Rattle.nest_base.specs.declared.places.Point.{Point}
use Rattle.nest_base.specs.declared.places.Edge.{Edge}
use Rattle.nest_base.specs.Plane.{HalfEdge, twin}
use Rattle.nest_base.specs.Order.{IsMarkedBefore}
use Rattle.plate_sides.specs.HalfEdges.{Leaves}
use Rattle.plate_sides.specs.Components.{IsJoinedTo}
use Rattle.half_edges.specs.Numbers.{IsSide}
use Rattle.rotation_systems.specs.Twins.{twin_number}
use Rattle.half_edges.specs.Layouts.{IsLayout, IsRotationAt, BeginsAt, AreVertices}
use Rattle.half_edges.specs.Floods.{end_of, Joins}
use Rattle.nest_base.proofs.Orders.{IsMarkedBefore-irrefl}
use Rattle.nest_base.proofs.ListReads.{read_below, one_read, read-take, read-drop, Contains-from_read, read_from_Contains, AllPairs-reads}
use Rattle.half_edges.proofs.Twins.{IsSide-twin}

-- each vertex has one number
pub one_number : (edges : List Edge) (vertices : List Point) (v w : ℕ) (p : Point) → AreVertices edges vertices →
    slice_get vertices v ≡ Some p → slice_get vertices w ≡ Some p → v ≡ w
one_number edges vertices v w p are at_v at_w = elim (cases_order v w) [
  | inl same ↦ same
  | inr (inl less) ↦ absurd (IsMarkedBefore-irrefl p p (AllPairs-reads IsMarkedBefore vertices v w p p are.in_order less at_v at_w) refl)
  | inr (inr more) ↦ absurd (IsMarkedBefore-irrefl p p (AllPairs-reads IsMarkedBefore vertices w v p p are.in_order more at_w at_v) refl)
]

-- where the half-edges round a vertex stand
pub rotation_within : (edges : List Edge) (vertices : List Point) (origins all starts : List ℕ) (v first behind : ℕ) →
    IsLayout edges vertices origins all starts → v < length vertices → BeginsAt starts v first → BeginsAt starts (v + 1) behind →
    (first ≤ behind) × (behind ≤ length all)
rotation_within edges vertices origins all starts v first behind lay within begins ends =
    let at = read_below vertices v within in
    let rotation = lay.rotations v first behind at.0 at.1 begins ends in
    (omega (arith, rotation.long), rotation.within)

-- the same half-edges, as a list of their own
pub rotation_cut : (edges : List Edge) (p : Point) (all : List ℕ) (first behind : ℕ) → IsRotationAt edges p all first behind →
    IsRotationAt edges p (take (behind - first) (drop first all)) 0 (length (take (behind - first) (drop first all)))
rotation_cut edges p all first behind r =
    let long = length-take (behind - first) (drop first all) in
    let rest = length-drop first all in
    let here : length (take (behind - first) (drop first all)) ≡ length r.rotation = omega (arith, long, rest, r.long, r.within) in
    record {
      rotation = r.rotation;
      is_rotation = r.is_rotation;
      long = omega (arith, here);
      within = omega arith;
      stands = λ k h at.
          let stands = r.stands k h at in
          let below : k < behind - first = omega (arith, r.long, slice_get_within r.rotation k h at) in
          (stands.0, ap (slice_get (take (behind - first) (drop first all))) (omega arith) ∙ read-take (behind - first) (drop first all) k below ∙ read-drop first all k ∙ stands.1, stands.2);
    }

-- a half-edge that leaves u leads to a neighbour
side_joins : (edges : List Edge) (vertices : List Point) (origins all starts : List ℕ) (u s : ℕ) (p : Point) (h : HalfEdge) →
    IsLayout edges vertices origins all starts → slice_get vertices u ≡ Some p → IsSide edges s h → Leaves edges p h →
    (twin_number s < length origins) × Joins edges vertices u (end_of origins s)
side_joins edges vertices origins all starts u s p h lay at is leaves =
    let back = lay.leaves (twin_number s) (twin h) (IsSide-twin edges s h is) in
    let named : end_of origins s ≡ back.0 = get_or_from_slice_get origins (twin_number s) back.0 0 back.1 in (
      slice_get_within origins (twin_number s) back.0 back.1,
      record {
        place = p;
        other = h.to;
        at_place = at;
        at_other = ap (slice_get vertices) named ∙ back.2;
        edge = subst (λ q. IsJoinedTo edges q h.to) leaves.1 leaves.0;
      },
    )

-- so does each round u
pub rotation_joins : (edges : List Edge) (vertices : List Point) (origins all starts : List ℕ) (rotation : List ℕ) (u k s : ℕ) (p : Point) →
    IsLayout edges vertices origins all starts → slice_get vertices u ≡ Some p → IsRotationAt edges p rotation 0 (length rotation) → slice_get rotation k ≡ Some s →
    (twin_number s < length origins) × Joins edges vertices u (end_of origins s)
rotation_joins edges vertices origins all starts rotation u k s p lay at r is =
    let side = read_below r.rotation k (omega (arith, r.long, slice_get_within rotation k s is)) in
    let stands = r.stands k side.0 side.1 in
    let same : stands.0 ≡ s = one_read rotation k stands.0 s (ap (slice_get rotation) (sym (zero-add k)) ∙ stands.1) is in
    side_joins edges vertices origins all starts u s p side.0 lay at (subst (λ n. IsSide edges n side.0) same stands.2)
    ((r.is_rotation.are_all side.0).0 (Contains-from_read r.rotation k side.0 side.1))

-- and to each neighbour one leads
pub joined_in_rotation : (edges : List Edge) (vertices : List Point) (origins all starts : List ℕ) (rotation : List ℕ) (u w : ℕ) (p : Point) →
    IsLayout edges vertices origins all starts → slice_get vertices u ≡ Some p → IsRotationAt edges p rotation 0 (length rotation) → Joins edges vertices u w →
    (k : ℕ) × (s : ℕ) × (k < length rotation) × (slice_get rotation k ≡ Some s) × (end_of origins s ≡ w)
joined_in_rotation edges vertices origins all starts rotation u w p lay at r join =
    let side : HalfEdge = record { from = join.place; to = join.other } in
    let from_p : join.place ≡ p = one_read vertices u join.place p join.at_place at in
    let found = read_from_Contains r.rotation side ((r.is_rotation.are_all side).1 (join.edge, from_p)) in
    let stands = r.stands found.0 side found.1 in
    let back = lay.leaves (twin_number stands.0) (twin side) (IsSide-twin edges stands.0 side stands.2) in
    let named : end_of origins stands.0 ≡ back.0 = get_or_from_slice_get origins (twin_number stands.0) back.0 0 back.1 in
    let there : slice_get rotation found.0 ≡ Some stands.0 = ap (slice_get rotation) (sym (zero-add found.0)) ∙ stands.1 in
    (found.0, stands.0, slice_get_within rotation found.0 stands.0 there, there, named ∙ one_number edges vertices back.0 w join.other lay.are_vertices back.2 join.at_other)
