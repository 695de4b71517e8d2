-- The list of all half-edges: each number stands once, and vertices never come before earlier ones.
use Rattle.std.proofs.Common.{arith, ◌≡◌, ◌≢◌, ◌⊎◌, inl, inr, ℕ, ◌*◌, ◌<◌, ◌≤◌, List, length, map, sym, ap, subst, ◌∙◌}
use Rattle.std.specs.Prelude.{Some, slice_get, Contains, AllPairs}
use Rattle.std.specs.Cmp.{nat_eq_equiv}
use Rattle.std.proofs.lemmas.Bool.Decides.{Decides-eqb}
use Rattle.std.proofs.lemmas.List.{length-map}
use Rattle.std.proofs.lemmas.Option.{get_or_from_slice_get}
use Rattle.std.proofs.lemmas.Map.Made.{IsDistinct-from_AllPairs}
use Rattle.std.proofs.lemmas.Map.Steps.{length-le_from_distinct_below, le-length_from_below}
use Rattle.std.proofs.lemmas.Map.Views.{Contains-from_any, list_any-from_Contains}
use Rattle.nest_base.specs.declared.numbers.Side.{Side}
use Rattle.nest_base.specs.declared.places.Point.{Point}
use Rattle.nest_base.specs.declared.places.Edge.{Edge}
use Rattle.nest_base.specs.Plane.{HalfEdge}
use Rattle.nest_base.specs.Order.{IsMarkedBefore}
use Rattle.nest_base.specs.Limits.{most_edges, most_half_edges}
use Rattle.half_edges.specs.Numbers.{half_edges_of, IsSide}
use Rattle.half_edges.specs.Rotations.{AreAllRound, IsBeforeAllRound}
use Rattle.half_edges.specs.Runs.{side_at, from_at}
use Rattle.nest_base.proofs.ListReads.{read-map, read_below, Contains-from_read, read_from_Contains, AllPairs-reads, AllPairs-from_reads}
use Rattle.half_edges.proofs.Numbers.{length-half_edges, side_within, side_below}
use Rattle.half_edges.proofs.Rounds.{IsBeforeAllRound-irrefl}

-- the half-edge that stands at a number
pub side_at_is : (edges : List Edge) (s : ℕ) (h : HalfEdge) → IsSide edges s h → side_at (half_edges_of edges) s ≡ h
side_at_is edges s h is = get_or_from_slice_get (half_edges_of edges) s h _ is

-- the vertex of a place is that which its half-edge leaves
pub from_at_is : (edges : List Edge) (all : List ℕ) (j s : ℕ) (h : HalfEdge) → slice_get all j ≡ Some s → IsSide edges s h → from_at edges all j ≡ h.from
from_at_is edges all j s h at is =
    ap (λ k. (side_at (half_edges_of edges) k).from) (get_or_from_slice_get all j s 0 at) ∙ ap (λ (g : HalfEdge). g.from) (side_at_is edges s h is)

module _ {edges : List Edge} {all : List ℕ} (whole : AreAllRound edges all) where
  -- at each place stands the number of a half-edge
  pub side_there : (j s : ℕ) → slice_get all j ≡ Some s → (h : HalfEdge) × IsSide edges s h
  side_there j s at = whole.each s (Contains-from_read all j s at)

  pub number_below : (j s : ℕ) → slice_get all j ≡ Some s → s < 2 * length edges
  number_below j s at = let r = side_there j s at in side_within edges s r.0 r.1

  -- and each has a place
  pub place_of : (s : ℕ) (h : HalfEdge) → IsSide edges s h → (j : ℕ) × (slice_get all j ≡ Some s)
  place_of s h is = read_from_Contains all s (whole.whole s h is)

  -- two places in order have two half-edges in order
  pub places_in_order : (i j s t : ℕ) (g h : HalfEdge) → i < j → slice_get all i ≡ Some s → slice_get all j ≡ Some t → IsSide edges s g → IsSide edges t h →
      IsBeforeAllRound g h
  places_in_order i j s t g h less at_s at_t is_g is_h =
      AllPairs-reads (λ a b. (x y : HalfEdge) → IsSide edges a x → IsSide edges b y → IsBeforeAllRound x y) all i j s t whole.in_order less at_s at_t g h is_g is_h

  -- no number stands twice
  pub each_once : AllPairs (λ s t. s ≢ t) all
  each_once = AllPairs-from_reads (λ s t. s ≢ t) all (λ i j s t less at_s at_t same.
      let r = side_there i s at_s in
      IsBeforeAllRound-irrefl r.0 (places_in_order i j s t r.0 r.0 less at_s at_t r.1 (subst (λ k. IsSide edges k r.0) same r.1)))

  length_at_most : length all ≤ 2 * length edges
  length_at_most =
      length-le_from_distinct_below all (2 * length edges) (IsDistinct-from_AllPairs Decides-eqb all each_once) (λ q found. below q (Contains-from_any (λ x y. (Decides-eqb x y).0) q all found))
    where
      below : (q : ℕ) → Contains all q → q < 2 * length edges
      below q c = let r = read_from_Contains all q c in number_below r.0 q r.1

  length_at_least : 2 * length edges ≤ length all
  length_at_least = le-length_from_below all (2 * length edges) (λ q below.
      let r = side_below edges q below in list_any-from_Contains nat_eq_equiv q all (whole.whole q r.0 r.1))

  -- there are as many places as half-edges
  pub length_of_all : length all ≡ 2 * length edges
  length_of_all = omega (arith, length_at_most, length_at_least)

  -- no place has an earlier vertex than a place before it
  pub from_not_after : (i j : ℕ) → i < j → j < length all → IsMarkedBefore (from_at edges all i) (from_at edges all j) ⊎ (from_at edges all i ≡ from_at edges all j)
  from_not_after i j less within = of (read_below all i (omega arith)) (read_below all j within)
    where
      of : (s : ℕ) × (slice_get all i ≡ Some s) → (t : ℕ) × (slice_get all j ≡ Some t) → IsMarkedBefore (from_at edges all i) (from_at edges all j) ⊎ (from_at edges all i ≡ from_at edges all j)
      of (s, at_s) (t, at_t) =
          let g = side_there i s at_s in
          let h = side_there j t at_t in
          rw (from_at_is edges all i s g.0 at_s g.1, from_at_is edges all j t h.0 at_t h.1)
          (elim (places_in_order i j s t g.0 h.0 less at_s at_t g.1 h.1) [
            | inl before ↦ inl before
            | inr same ↦ inr same.0
          ])

-- the half-edges are so few that their places fit 32 bits
pub few_places : (edges : List Edge) (all : List Side) → length edges ≤ most_edges → AreAllRound edges (map (λ s. s.0) all) → length all ≤ most_half_edges
few_places edges all few whole = omega (arith, length_of_all whole, length-map all (λ (s : Side). s.0))

-- the place that the half-edge at a place leaves
pub from_read : (edges : List Edge) (all : List Side) (k : ℕ) (s : Side) (p : Point) → AreAllRound edges (map (λ t. t.0) all) → slice_get all k ≡ Some s →
    ((h : HalfEdge) → IsSide edges s.0 h → p ≡ h.from) → p ≡ from_at edges (map (λ t. t.0) all) k
from_read edges all k s p whole at is =
    let there : slice_get (map (λ t. t.0) all) k ≡ Some s.0 = read-map (λ (t : Side). t.0) all k s at in
    let r = side_there whole k s.0 there in is r.0 r.1 ∙ sym (from_at_is edges (map (λ t. t.0) all) k s.0 r.0 there r.1)

-- its number is within lists by number
pub number_fits : (edges : List Edge) (all : List Side) (k : ℕ) (s : Side) → AreAllRound edges (map (λ t. t.0) all) → slice_get all k ≡ Some s → s.0 < length (half_edges_of edges)
number_fits edges all k s whole at =
    omega (arith, number_below whole k s.0 (read-map (λ (t : Side). t.0) all k s at), length-half_edges edges)
