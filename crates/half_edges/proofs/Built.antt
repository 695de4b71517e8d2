-- The lists of a graph, as they are made, and the edges that are read back from them.
use Rattle.std.proofs.Common.{arith, ◌≡◌, ◌≢◌, ℕ, ◌*◌, ◌≤◌, inl, inr, List, length, slice_get, sym, ap, subst, ◌∙◌}
use Rattle.std.specs.Prelude.{All, AllPairs}
use Rattle.std.proofs.lemmas.Bool.{cases_order}
use Rattle.nest_base.specs.declared.places.Point.{Point}
use Rattle.nest_base.specs.declared.places.Edge.{Edge}
use Rattle.nest_base.specs.Plane.{HalfEdge}
use Rattle.nest_base.specs.Range.{IsEdgeWithin, widest}
use Rattle.nest_base.specs.Limits.{most_edges}
use Rattle.plate_edges.specs.Points.{EdgesMeetAtEndsOnly}
use Rattle.plate_sides.specs.HalfEdges.{forth}
use Rattle.half_edges.specs.Numbers.{IsSide}
use Rattle.half_edges.specs.Rotations.{AreAllRound}
use Rattle.half_edges.specs.Layouts.{IsLayout, ArePositions}
use Rattle.half_edges.specs.Graph.{edges_between, AreComponents, IsGraph}
use Rattle.nest_base.proofs.ListReads.{one_read, AllPairs-from_reads}
use Rattle.half_edges.proofs.Numbers.{side_low}
use Rattle.half_edges.proofs.Rounds.{IsBeforeAllRound-irrefl}
use Rattle.half_edges.proofs.AllSides.{place_of, places_in_order}
use Rattle.half_edges.proofs.EdgesBetween.{edges_between-same}
use Rattle.half_edges.proofs.NextRound.{AreOrdered}

-- a layout gives the edges back
pub edges_of_layout : (edges : List Edge) (vertices : List Point) (origins all starts : List ℕ) → IsLayout edges vertices origins all starts → edges_between vertices origins ≡ edges
edges_of_layout edges vertices origins all starts layout = edges_between-same edges vertices origins layout.as_many layout.leaves

module _ (edges : List Edge) (all : List ℕ) (are : AreAllRound edges all) where
  -- no half-edge has two numbers
  one_number : (s t : ℕ) (h : HalfEdge) → IsSide edges s h → IsSide edges t h → s ≡ t
  one_number s t h is_s is_t =
      let i = place_of are s h is_s in
      let j = place_of are t h is_t in
      elim (cases_order i.0 j.0) [
        | inl same ↦ one_read all i.0 s t i.1 (ap (slice_get all) same ∙ j.1)
        | inr (inl less) ↦ absurd (IsBeforeAllRound-irrefl h (places_in_order are i.0 j.0 s t h h less i.1 j.1 is_s is_t))
        | inr (inr more) ↦ absurd (IsBeforeAllRound-irrefl h (places_in_order are j.0 i.0 t s h h more j.1 i.1 is_t is_s))
      ]

  pub edges_each_once : AllPairs (λ (e f : Edge). e ≢ f) edges
  edges_each_once = AllPairs-from_reads (λ (e f : Edge). e ≢ f) edges
      (λ i j e f less at_i at_j same.
      let number = one_number (2 * i) (2 * j) (forth e) (side_low edges i e at_i) (subst (λ d. IsSide edges (2 * j) (forth d)) (sym same) (side_low edges j f at_j)) in
      omega (arith, number))

pub graph_of_lists : (edges : List Edge) (vertices : List Point) (origins all starts positions components burnt : List ℕ) (marks : List Point) →
    length edges ≤ most_edges → AreOrdered edges → All (IsEdgeWithin widest) edges → AllPairs EdgesMeetAtEndsOnly edges → AreAllRound edges all → IsLayout edges vertices origins all starts → ArePositions edges positions → AreComponents edges vertices components marks →
    IsGraph (record { edges = edges_between vertices origins; vertices = vertices; marks = marks; origins = origins; positions = positions; all = all; starts = starts; components = components; burnt = burnt })
graph_of_lists edges vertices origins all starts positions components burnt marks few ordered within apart are layout are_positions are_components =
    subst (λ (es : List Edge). IsGraph (record { edges = es; vertices = vertices; marks = marks; origins = origins; positions = positions; all = all; starts = starts; components = components; burnt = burnt }))
    (sym (edges_of_layout edges vertices origins all starts layout))
    (record { few = few; ends_in_order = ordered; each_once = edges_each_once edges all are; within = within; apart = apart; layout = layout; are_positions = are_positions; are_components = are_components })
