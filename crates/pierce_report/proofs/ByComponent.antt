-- Which edges and which chains count for a component.
use Rattle.std.proofs.Common.{arith, ◌≡◌, ◌⊎◌, inl, inr, ℕ, zero, suc, ◌*◌, ◌<◌, ◌≤◌, cond, List, [], ◌∷◌, length, map, refl, sym, ap, subst, ◌∙◌}
use Rattle.std.specs.Prelude.{Some, All, slice_get, slice_index_or}
use Rattle.std.specs.List.{AllZip}
use Rattle.std.proofs.lemmas.Bool.{cases_eq, eq-eqb, ne_eqb}
use Rattle.std.proofs.lemmas.Option.{none-some, same_Some, get_or_from_slice_get}
use Rattle.std.proofs.lemmas.List.{length-map}
use Rattle.nest_base.specs.declared.places.Point.{Point}
use Rattle.nest_base.specs.declared.places.Edge.{Edge}
use Rattle.nest_base.specs.Plane.{HalfEdge}
use Rattle.plate_sides.specs.HalfEdges.{forth}
use Rattle.plate_sides.specs.Components.{SameComponent, IsIn}
use Rattle.plate_sides.proofs.Components.{twin_is_in}
use Rattle.plate_sides.specs.Cover.{IsTrail, HasTrailsIn}
use Rattle.half_edges.specs.Numbers.{half_edges_of}
use Rattle.rotation_systems.specs.RotationSystem.{total}
use Rattle.half_edges.specs.Graph.{Graph, component_of, origin_of}
use Rattle.half_edges.specs.PlaneGraphs.{IsPlaneGraph}
use Rattle.nest_base.proofs.ListReads.{All-read, All-from_reads, read_of_map}
use Rattle.half_edges.proofs.Numbers.{side_low}
use Rattle.face_nesting.proofs.KnownGraph.{component_is, lies_in}
use Rattle.cover_plan.specs.Trails.{half_edge_of}
use Rattle.cover_plan.proofs.GraphHalves.{has_number}
use Rattle.cover_plan.proofs.TrailNumbers.{first_is, chain_is_trail, chain_below}
use Rattle.pierce_bound.proofs.Tallies.{counted_for}
use Rattle.pierce_report.proofs.Tallies.{AreTallied, all_tallied}
use Rattle.oe_cover.specs.Trails.{trails_by}
use Rattle.pierce_report.specs.Rows.{HasEdgeCount, chain_component}
use Rattle.pierce_report.proofs.Totals.{HasCount-total}

-- each thing counts 1
abbrev pub each_one : ℕ → ℕ
each_one k = 1

-- the component of an edge by number, and of a chain
abbrev pub edge_component : Graph → ℕ → ℕ
edge_component graph k = component_of graph (origin_of graph (2 * k))

abbrev pub chain_component_at : Graph → List (List ℕ) → ℕ → ℕ
chain_component_at graph plan k = chain_component graph (slice_index_or plan k [])

-- a thing that counts for c exactly where it has P
tells : (P : Type 0) (place : ℕ → ℕ) (c k : ℕ) → (place k ≡ c → P) → (P → place k ≡ c) →
    (P × (counted_for place each_one c k ≡ 1)) ⊎ ((P → ⊥) × (counted_for place each_one c k ≡ 0))
tells P place c k has is = elim (cases_eq (place k) c) [
  | inl there ↦ inl (has there, ap (λ b. cond b 1 0) (eq-eqb (place k) c there))
  | inr elsewhere ↦ inr ((λ p. elsewhere (is p)), ap (λ b. cond b 1 0) (ne_eqb (place k) c elsewhere))
]

-- where a trail begins in a component, all of it lies there
rest_is_in : (edges : List Edge) (mark : Point) (s : HalfEdge) (rest : List HalfEdge) → IsTrail edges (s ∷ rest) → IsIn edges mark s →
    (k : ℕ) (h : HalfEdge) → slice_get (s ∷ rest) k ≡ Some h → IsIn edges mark h
rest_is_in edges mark s [] trail inside zero h at = subst (IsIn edges mark) (same_Some s h at) inside
rest_is_in edges mark s [] trail inside (suc k) h at = absurd (none-some h at)
rest_is_in edges mark s (t ∷ rest) trail inside zero h at = subst (IsIn edges mark) (same_Some s h at) inside
rest_is_in edges mark s (t ∷ rest) trail inside (suc k) h at =
    let next : IsIn edges mark t = (first_is edges t rest trail.2, subst (λ v. SameComponent edges v mark) trail.1 (twin_is_in edges mark s inside).1) in
    rest_is_in edges mark t rest trail.2 next k h at

module _ {graph : Graph} (is : IsPlaneGraph graph) (c : ℕ) (mark : Point) (at_c : slice_get graph.marks c ≡ Some mark) where
  edge_tells : (k : ℕ) (e : Edge) → slice_get graph.edges k ≡ Some e →
      (IsIn graph.edges mark (forth e) × (counted_for (edge_component graph) each_one c k ≡ 1)) ⊎ ((IsIn graph.edges mark (forth e) → ⊥) × (counted_for (edge_component graph) each_one c k ≡ 0))
  edge_tells k e at =
      let side = side_low graph.edges k e at in
      tells (IsIn graph.edges mark (forth e)) (edge_component graph) c k (lies_in is (2 * k) c (forth e) mark side at_c) (component_is is (2 * k) c (forth e) mark side at_c)

  edge_count : HasEdgeCount graph.edges mark (total (counted_for (edge_component graph) each_one c) (length graph.edges))
  edge_count = HasCount-total (λ (e : Edge). IsIn graph.edges mark (forth e)) graph.edges (counted_for (edge_component graph) each_one c) edge_tells

  -- a chain lies in the component in which it begins
  chain_is_in : (chain : List ℕ) → IsTrail graph.edges (map (half_edge_of graph) chain) → All (λ s. s < length (half_edges_of graph.edges)) chain → chain_component graph chain ≡ c →
      All (IsIn graph.edges mark) (map (half_edge_of graph) chain)
  chain_is_in [] trail below there = absurd trail
  chain_is_in (s ∷ rest) trail below there =
      let side = has_number graph s (All-read (λ n. n < length (half_edges_of graph.edges)) (s ∷ rest) 0 s below refl) in
      All-from_reads (IsIn graph.edges mark) (map (half_edge_of graph) (s ∷ rest))
      (rest_is_in graph.edges mark (half_edge_of graph s) (map (half_edge_of graph) rest) trail (lies_in is s c (half_edge_of graph s) mark side at_c there))

  -- and in no other
  chain_begins_in : (chain : List ℕ) → IsTrail graph.edges (map (half_edge_of graph) chain) → All (λ s. s < length (half_edges_of graph.edges)) chain →
      All (IsIn graph.edges mark) (map (half_edge_of graph) chain) → chain_component graph chain ≡ c
  chain_begins_in [] trail below inside = absurd trail
  chain_begins_in (s ∷ rest) trail below inside =
      let side = has_number graph s (All-read (λ n. n < length (half_edges_of graph.edges)) (s ∷ rest) 0 s below refl) in
      component_is is s c (half_edge_of graph s) mark side at_c (All-read (IsIn graph.edges mark) (map (half_edge_of graph) (s ∷ rest)) 0 (half_edge_of graph s) inside refl)

  module _ (plan : List (List ℕ)) (trails : All (IsTrail graph.edges) (trails_by graph.edges plan)) where
    chain_tells : (k : ℕ) (trail : List HalfEdge) → slice_get (trails_by graph.edges plan) k ≡ Some trail →
        (All (IsIn graph.edges mark) trail × (counted_for (chain_component_at graph plan) each_one c k ≡ 1)) ⊎
        ((All (IsIn graph.edges mark) trail → ⊥) × (counted_for (chain_component_at graph plan) each_one c k ≡ 0))
    chain_tells k trail at =
        let chain = read_of_map (map (half_edge_of graph)) plan k trail at in
        let is_trail = chain_is_trail graph plan trails k chain.0 chain.1 in
        let below = chain_below is chain.0 is_trail in
        let number : chain_component_at graph plan k ≡ chain_component graph chain.0 = ap (chain_component graph) (get_or_from_slice_get plan k chain.0 [] chain.1) in
        subst (λ (t : List HalfEdge). (All (IsIn graph.edges mark) t × (counted_for (chain_component_at graph plan) each_one c k ≡ 1)) ⊎
        ((All (IsIn graph.edges mark) t → ⊥) × (counted_for (chain_component_at graph plan) each_one c k ≡ 0))) chain.2
        (tells (All (IsIn graph.edges mark) (map (half_edge_of graph) chain.0)) (chain_component_at graph plan) c k
        (λ there. chain_is_in chain.0 is_trail below (sym number ∙ there)) (λ inside. number ∙ chain_begins_in chain.0 is_trail below inside))

    chain_count : HasTrailsIn graph.edges mark (trails_by graph.edges plan) (total (counted_for (chain_component_at graph plan) each_one c) (length plan))
    chain_count =
        let f = counted_for (chain_component_at graph plan) each_one c in
        subst (λ n. HasTrailsIn graph.edges mark (trails_by graph.edges plan) (total f n)) (length-map plan (map (half_edge_of graph)))
        (HasCount-total (All (IsIn graph.edges mark)) (trails_by graph.edges plan) f chain_tells)

pub one_is_one : (k : ℕ) → each_one k ≤ 1
one_is_one k = omega arith

pub all_edges_counted : {graph : Graph} → IsPlaneGraph graph → (n : ℕ) (counts : List ℕ) → n ≡ length graph.edges →
    AreTallied (edge_component graph) each_one (length graph.marks) n counts → AllZip (HasEdgeCount graph.edges) graph.marks counts
all_edges_counted {graph} is n counts all are =
    all_tallied (HasEdgeCount graph.edges) (edge_component graph) each_one n graph.marks counts are
    (λ c mark at. subst (λ m. HasEdgeCount graph.edges mark (total (counted_for (edge_component graph) each_one c) m)) (sym all) (edge_count is c mark at))

pub all_chains_counted : {graph : Graph} → IsPlaneGraph graph → (plan : List (List ℕ)) → All (IsTrail graph.edges) (trails_by graph.edges plan) →
    (n : ℕ) (counts : List ℕ) → n ≡ length plan → AreTallied (chain_component_at graph plan) each_one (length graph.marks) n counts →
    AllZip (λ mark m. HasTrailsIn graph.edges mark (trails_by graph.edges plan) m) graph.marks counts
all_chains_counted {graph} is plan trails n counts all are =
    all_tallied (λ mark m. HasTrailsIn graph.edges mark (trails_by graph.edges plan) m) (chain_component_at graph plan) each_one n graph.marks counts are
    (λ c mark at. subst (λ m. HasTrailsIn graph.edges mark (trails_by graph.edges plan) (total (counted_for (chain_component_at graph plan) each_one c) m)) (sym all) (chain_count is c mark at plan trails))
