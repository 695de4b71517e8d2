-- What is seen among the first of some edges, and the number of what is seen among all.
use Rattle.std.proofs.Common.{arith, ◌≡◌, ◌⊎◌, inl, inr, ℕ, ◌+◌, ◌*◌, ◌<◌, ◌<ℤ◌, List, length, take, Option, None, Some, slice_get, sym, subst, ◌∙◌}
use Rattle.std.specs.Prelude.{All, Contains, IfSome, IfNone}
use Rattle.std.proofs.lemmas.Int.{ints}
use Rattle.std.proofs.lemmas.List.Elements.{All-contains, Contains-push_cases}
use Rattle.std.proofs.lemmas.Option.{slice_get_within}
use Rattle.nest_base.specs.declared.places.Point.{Point}
use Rattle.nest_base.specs.declared.places.Edge.{Edge}
use Rattle.nest_base.specs.declared.numbers.Side.{Side}
use Rattle.nest_base.specs.Plane.{HalfEdge}
use Rattle.nest_base.specs.Range.{IsWithin, IsEdgeWithin}
use Rattle.nest_base.specs.Sight.{IsMet, IsNearer, GoesDown}
use Rattle.plate_sides.specs.HalfEdges.{IsHalfEdge, IsHalfEdgeOf, IsVertex}
use Rattle.plate_sides.specs.Links.{IsSeen, SeesNone}
use Rattle.plate_sides.proofs.HalfEdges.{from_is_end}
use Rattle.plate_nesting.proofs.Nearer.{nearer_then}
use Rattle.plate_nesting.proofs.Seen.{met_falls, not_nearer_itself}
use Rattle.half_edges.specs.Numbers.{IsSide}
use Rattle.nest_base.proofs.ListReads.{Contains-from_read, one_read}
use Rattle.half_edges.proofs.Numbers.{side_low, side_high}
use Rattle.face_nesting.specs.Numbering.{number_seen}
use Rattle.face_nesting.specs.Sights.{IsSight}
use Rattle.face_nesting.proofs.Prefixes.{take_read}

-- at this place of `edges` stands an edge that is met from p, and of those seen so far none is nearer
pub record IsNearestAt (edges so_far : List Edge) (p : Point) (n : ℕ) : Type 0 where
  pub edge : Edge
  pub at : slice_get edges n ≡ Some edge
  pub side : HalfEdge
  pub goes_down : GoesDown edge side
  pub is_met : IsMet p side
  pub none_nearer : (f : HalfEdge) → IsHalfEdge so_far f → IsMet p f → IsNearer p f side → ⊥

-- no edge seen so far is met, or the nearest of them stands at this place
abbrev pub IsNearestOf : List Edge → List Edge → Point → Option ℕ → Type 0
IsNearestOf edges so_far p None = SeesNone so_far p
IsNearestOf edges so_far p (Some n) = IsNearestAt edges so_far p n

-- the half-edge of a met edge goes down
met_goes_down : (e : Edge) (p : Point) (f : HalfEdge) → IsHalfEdgeOf e f → IsMet p f → GoesDown e f
met_goes_down e p f is met = record { one_of_two = is; down = omega (arith, ints, met.lower_end, met.upper_end) }

-- one half-edge of an edge goes down
one_goes_down : (e : Edge) (f g : HalfEdge) → GoesDown e f → GoesDown e g → f ≡ g
one_goes_down e f g is also = of is.one_of_two also.one_of_two is.down also.down
  where
    of : (f ≡ record { from = e.low; to = e.high }) ⊎ (f ≡ record { from = e.high; to = e.low }) → (g ≡ record { from = e.low; to = e.high }) ⊎ (g ≡ record { from = e.high; to = e.low }) →
        f.to.y <ℤ f.from.y → g.to.y <ℤ g.from.y → f ≡ g
    of (inl a) (inl b) p q = a ∙ sym b
    of (inr a) (inr b) p q = a ∙ sym b
    of (inl a) (inr b) p q = absurd (omega (arith, ints, rw a at p, rw b at q))
    of (inr a) (inl b) p q = absurd (omega (arith, ints, rw a at p, rw b at q))

-- one edge more
module _ (edges : List Edge) (k : ℕ) (e : Edge) (at : slice_get edges k ≡ Some e) (p : Point) where
  half_edge_more : (f : HalfEdge) → IsHalfEdge (take (k + 1) edges) f → IsHalfEdge (take k edges) f ⊎ IsHalfEdgeOf e f
  half_edge_more f (d, among, half) =
      elim (Contains-push_cases (take k edges) e d (subst (λ l. Contains l d) (take_read edges k e at) among)) [
        | inl before ↦ inl (d, before, half)
        | inr last ↦ inr (subst (λ x. IsHalfEdgeOf x f) (sym last) half)
      ]

  -- that isn't met
  unmet_none : ((d : HalfEdge) → GoesDown e d → IsMet p d → ⊥) → SeesNone (take k edges) p → SeesNone (take (k + 1) edges) p
  unmet_none unmet none f is met = elim (half_edge_more f is) [ inl before ↦ none f before met | inr of_e ↦ unmet f (met_goes_down e p f of_e met) met ]

  unmet_some : ((d : HalfEdge) → GoesDown e d → IsMet p d → ⊥) → (n : ℕ) → IsNearestAt edges (take k edges) p n → IsNearestAt edges (take (k + 1) edges) p n
  unmet_some unmet n known = record {
    edge = known.edge;
    at = known.at;
    side = known.side;
    goes_down = known.goes_down;
    is_met = known.is_met;
    none_nearer = λ f is met near. elim (half_edge_more f is) [ inl before ↦ known.none_nearer f before met near | inr of_e ↦ unmet f (met_goes_down e p f of_e met) met ];
  }

  pub nearest_unmet : ((d : HalfEdge) → GoesDown e d → IsMet p d → ⊥) → (nearest : Option ℕ) → IsNearestOf edges (take k edges) p nearest → IsNearestOf edges (take (k + 1) edges) p nearest
  nearest_unmet unmet None none = unmet_none unmet none
  nearest_unmet unmet (Some n) known = unmet_some unmet n known

  -- that is met
  module _ (d : HalfEdge) (goes_down : GoesDown e d) (met_d : IsMet p d) where
    of_e_is : (f : HalfEdge) → IsHalfEdgeOf e f → IsMet p f → f ≡ d
    of_e_is f of_e met = one_goes_down e f d (met_goes_down e p f of_e met) goes_down

    new_nearest : ((f : HalfEdge) → IsHalfEdge (take k edges) f → IsMet p f → IsNearer p f d → ⊥) → IsNearestAt edges (take (k + 1) edges) p k
    new_nearest none = record {
      edge = e;
      at = at;
      side = d;
      goes_down = goes_down;
      is_met = met_d;
      none_nearer = λ f is met near. elim (half_edge_more f is) [
        | inl before ↦ none f before met near
        | inr of_e ↦ not_nearer_itself p d (subst (λ x. IsNearer p x d) (of_e_is f of_e met) near)
      ];
    }

    pub nearest_first : SeesNone (take k edges) p → IsNearestAt edges (take (k + 1) edges) p k
    nearest_first none = new_nearest (λ f before met near. none f before met)

    pub nearest_taken : (n : ℕ) (known : IsNearestAt edges (take k edges) p n) → IsNearer p d known.side → IsNearestAt edges (take (k + 1) edges) p k
    nearest_taken n known nearer = new_nearest (λ f before met near.
        known.none_nearer f before met (nearer_then p f d known.side (met_falls p f met) (met_falls p d met_d) (met_falls p known.side known.is_met) near nearer))

    pub nearest_kept : (n : ℕ) (known : IsNearestAt edges (take k edges) p n) → (IsNearer p d known.side → ⊥) → IsNearestAt edges (take (k + 1) edges) p n
    nearest_kept n known further = record {
      edge = known.edge;
      at = known.at;
      side = known.side;
      goes_down = known.goes_down;
      is_met = known.is_met;
      none_nearer = λ f is met near. elim (half_edge_more f is) [
        | inl before ↦ known.none_nearer f before met near
        | inr of_e ↦ further (subst (λ x. IsNearer p x known.side) (of_e_is f of_e met) near)
      ];
    }

-- an edge that stands at this place is no other
pub nearest_at : (edges so_far : List Edge) (p : Point) (n : ℕ) (known : IsNearestAt edges so_far p n) (e : Edge) → slice_get edges n ≡ Some e → GoesDown e known.side
nearest_at edges so_far p n known e at = subst (λ e. GoesDown e known.side) (one_read edges n known.edge e known.at at) known.goes_down

pub nearest_within : (edges so_far : List Edge) (p : Point) (n : ℕ) → IsNearestAt edges so_far p n → n < length edges
nearest_within edges so_far p n known = slice_get_within edges n known.edge known.at

-- the nearest of all edges is seen
pub nearest_is_seen : (edges : List Edge) (p : Point) (n : ℕ) (known : IsNearestAt edges edges p n) → IsSeen edges p known.side
nearest_is_seen edges p n known = record {
  is_side = (known.edge, Contains-from_read edges n known.edge known.at, known.goes_down.one_of_two);
  is_met = known.is_met;
  none_nearer = known.none_nearer;
}

-- the number of the half-edge that goes down
pub down_is_low : (edges : List Edge) (k : ℕ) (e : Edge) (d : HalfEdge) → slice_get edges k ≡ Some e → GoesDown e d → (e.low.y <ℤ e.high.y → ⊥) → IsSide edges (2 * k) d
down_is_low edges k e d at goes level = elim goes.one_of_two [
  | inl is ↦ subst (IsSide edges (2 * k)) (sym is) (side_low edges k e at)
  | inr is ↦ absurd (level (rw is at goes.down))
]

pub down_is_high : (edges : List Edge) (k : ℕ) (e : Edge) (d : HalfEdge) → slice_get edges k ≡ Some e → GoesDown e d → e.low.y <ℤ e.high.y → IsSide edges (2 * k + 1) d
down_is_high edges k e d at goes up = elim goes.one_of_two [
  | inl is ↦ absurd (omega (arith, ints, up, rw is at goes.down))
  | inr is ↦ subst (IsSide edges (2 * k + 1)) (sym is) (side_high edges k e at)
]

-- what is found is the number of what is seen
pub sight_found : (edges : List Edge) (p : Point) (seen : Option Side) → IfSome seen (λ (s : Side). (d : HalfEdge) × IsSide edges s.0 d × IsSeen edges p d) →
    IfNone seen (SeesNone edges p) → IsSight edges p (number_seen seen)
sight_found edges p None found none = none
sight_found edges p (Some s) found none = found

-- a vertex lies as near as all edges do
pub vertex_within : (n : ℕ) (edges : List Edge) (v : Point) → All (IsEdgeWithin n) edges → IsVertex edges v → IsWithin n v
vertex_within n edges v all (h, ((e, among, is), at)) =
    let within = All-contains (IsEdgeWithin n) edges e all among in
    elim (from_is_end e h is) [
      | inl low ↦ subst (IsWithin n) (sym low ∙ at) within.low
      | inr high ↦ subst (IsWithin n) (sym high ∙ at) within.high
    ]
