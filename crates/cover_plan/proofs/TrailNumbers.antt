-- The numbers of a trail are those of half-edges.
use Rattle.std.proofs.Common.{pos, ◌≡◌, inl, inr, ℕ, zero, suc, ◌<◌, List, [], ◌∷◌, length, map, sym, ap, subst, ◌∙◌}
use Rattle.std.specs.Prelude.{Some, All, slice_get}
use Rattle.std.proofs.Math.ListN.{get_or-eq_default}
use Rattle.std.proofs.lemmas.Bool.{cases_lt}
use Rattle.std.proofs.lemmas.List.Elements.{All-contains}
use Rattle.std.proofs.lemmas.Option.{none-some, same_Some}
use Rattle.nest_base.specs.declared.places.Edge.{Edge}
use Rattle.nest_base.specs.Order.{IsBefore}
use Rattle.nest_base.specs.Plane.{HalfEdge}
use Rattle.plate_sides.specs.HalfEdges.{IsHalfEdge}
use Rattle.plate_sides.proofs.HalfEdges.{ends_differ}
use Rattle.plate_sides.specs.Cover.{IsTrail}
use Rattle.half_edges.specs.Numbers.{half_edges_of}
use Rattle.half_edges.specs.Graph.{Graph}
use Rattle.half_edges.specs.PlaneGraphs.{IsPlaneGraph}
use Rattle.nest_base.proofs.ListReads.{All-read, All-from_reads, read-map}
use Rattle.cover_plan.specs.Trails.{half_edge_of}

pub first_is : (edges : List Edge) (s : HalfEdge) (rest : List HalfEdge) → IsTrail edges (s ∷ rest) → IsHalfEdge edges s
first_is edges s [] trail = trail
first_is edges s (t ∷ rest) trail = trail.0

-- the chain at a place of a plan is a trail, where all are
pub chain_is_trail : (graph : Graph) (plan : List (List ℕ)) → All (IsTrail graph.edges) (map (map (half_edge_of graph)) plan) → (k : ℕ) (chain : List ℕ) →
    slice_get plan k ≡ Some chain → IsTrail graph.edges (map (half_edge_of graph) chain)
chain_is_trail graph plan trails k chain at =
    All-read (IsTrail graph.edges) (map (map (half_edge_of graph)) plan) k (map (half_edge_of graph) chain) trails (read-map (map (half_edge_of graph)) plan k chain at)

-- a number that is no half-edge's stands for what is none
half_below : {graph : Graph} → IsPlaneGraph graph → (s : ℕ) → IsHalfEdge graph.edges (half_edge_of graph s) → s < length (half_edges_of graph.edges)
half_below {graph} is s half = elim (cases_lt s (length (half_edges_of graph.edges))) [
  | inl below ↦ below
  | inr beyond ↦
      let none : half_edge_of graph s ≡ record { from = record { x = pos 0; y = pos 0 }; to = record { x = pos 0; y = pos 0 } } = get_or-eq_default (half_edges_of graph.edges) _ beyond in
      let same : (half_edge_of graph s).to ≡ (half_edge_of graph s).from = ap (λ (h : HalfEdge). h.to) none ∙ ap (λ (h : HalfEdge). h.from) (sym none) in
      let ordered = All-contains (λ (e : Edge). IsBefore e.low e.high) graph.edges half.0 is.ends_in_order half.1 in
      absurd (ends_differ half.0 (half_edge_of graph s) ordered half.2 same)
]

reads_below : {graph : Graph} → IsPlaneGraph graph → (s : ℕ) (rest : List ℕ) → IsTrail graph.edges (map (half_edge_of graph) (s ∷ rest)) →
    (k t : ℕ) → slice_get (s ∷ rest) k ≡ Some t → t < length (half_edges_of graph.edges)
reads_below {graph} is s rest trail zero t at =
    subst (λ n. n < length (half_edges_of graph.edges)) (same_Some s t at) (half_below is s (first_is graph.edges (half_edge_of graph s) (map (half_edge_of graph) rest) trail))
reads_below is s [] trail (suc k) t at = absurd (none-some t at)
reads_below is s (u ∷ rest) trail (suc k) t at = reads_below is u rest trail.2 k t at

pub chain_below : {graph : Graph} → IsPlaneGraph graph → (chain : List ℕ) → IsTrail graph.edges (map (half_edge_of graph) chain) → All (λ s. s < length (half_edges_of graph.edges)) chain
chain_below is [] trail = absurd trail
chain_below {graph} is (s ∷ rest) trail = All-from_reads (λ n. n < length (half_edges_of graph.edges)) (s ∷ rest) (reads_below is s rest trail)
