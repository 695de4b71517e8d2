-- The chains of one component, by numbers, are trails that cover it.
use Rattle.std.proofs.Common.{arith, ◌≡◌, ℕ, ◌<◌, ◌⊎◌, inl, inr, List, [], ◌∷◌, ◌++◌, length, map, refl, sym, ap, subst, ◌∙◌}
use Rattle.std.specs.Prelude.{All, Some, slice_get}
use Rattle.std.specs.List.{concat, AllByRecursion}
use Rattle.std.proofs.lemmas.List.{map-append}
use Rattle.std.proofs.lemmas.List.Elements.{All-nil, All-cons}
use Rattle.nest_base.specs.declared.places.Point.{Point}
use Rattle.nest_base.specs.declared.places.Edge.{Edge}
use Rattle.nest_base.specs.Plane.{HalfEdge, twin}
use Rattle.nest_base.specs.Selection.{HasCount, none, taken, passed}
use Rattle.nest_base.proofs.Lists.{All-from_contains}
use Rattle.plate_sides.specs.HalfEdges.{forth, IsHalfEdgeOf}
use Rattle.plate_sides.specs.Components.{IsIn}
use Rattle.plate_sides.specs.Links.{IsOuterSide}
use Rattle.plate_sides.specs.Cover.{IsTrail, joined}
use Rattle.plate_sides.specs.Plans.{IsOrderWithin, CoversWithin}
use Rattle.half_edges.specs.Numbers.{half_edges_of}
use Rattle.rotation_systems.specs.Twins.{twin_number}
use Rattle.half_edges.specs.Graph.{Graph, rotations_of, component_of, origin_of}
use Rattle.face_nesting.proofs.KnownGraph.{component_is}
use Rattle.cover_walks.specs.Orders.{Has, Once, Encloses}
use Rattle.cover_walks.specs.Walks.{Inside}
use Rattle.cover_walks.specs.Chains.{IsSideChain}
use Rattle.cover_walks.proofs.Holdings.{inside_front, inside_rest}
use Rattle.half_edges.specs.PlaneGraphs.{IsPlaneGraph}
use Rattle.cover_plan.specs.Trails.{half_edge_of}
use Rattle.cover_plan.proofs.GraphHalves.{has_number, is_half_edge, number_of, one_half, half_twin, same_place}
use Rattle.cover_plan.proofs.NamedEdges.{Has-half_twin}
use Rattle.cover_plan.proofs.OrdersByCuts.{lie_inside, order_within}

-- chains end to end, number by number
pub joined-map : (f : ℕ → HalfEdge) (chains : List (List ℕ)) → map f (concat chains) ≡ joined (map (map f) chains)
joined-map f [] = refl
joined-map f (chain ∷ chains) = map-append f chain (concat chains) ∙ ap (λ l. map f chain ++ l) (joined-map f chains)

module _ {graph : Graph} (is : IsPlaneGraph graph) (c : ℕ) where
  trail_of_chain : (chain : List ℕ) → Inside (rotations_of graph) (component_of graph) c chain → IsSideChain (rotations_of graph) chain → IsTrail graph.edges (map (half_edge_of graph) chain)
  trail_of_chain [] inside chain = absurd chain
  trail_of_chain (a ∷ []) inside chain = is_half_edge is a inside.0
  trail_of_chain (a ∷ b ∷ l) inside chain =
      let turned : (half_edge_of graph (twin_number a)).from ≡ (half_edge_of graph a).to = ap (λ (h : HalfEdge). h.from) (half_twin is a inside.0) in
      let meets : (half_edge_of graph a).to ≡ (half_edge_of graph b).from = sym turned ∙ same_place is (twin_number a) b (is.rotation.twin_in a inside.0) inside.2.0 chain.0 in
      (is_half_edge is a inside.0, meets, trail_of_chain (b ∷ l) inside.2 chain.1)

  trails_of_chains : (chains : List (List ℕ)) → Inside (rotations_of graph) (component_of graph) c (concat chains) → AllByRecursion (IsSideChain (rotations_of graph)) chains →
      All (IsTrail graph.edges) (map (map (half_edge_of graph)) chains)
  trails_of_chains [] inside are = All-nil (IsTrail graph.edges)
  trails_of_chains (chain ∷ chains) inside are =
      All-cons (IsTrail graph.edges) (map (half_edge_of graph) chain) (map (map (half_edge_of graph)) chains)
      (trail_of_chain chain (inside_front (rotations_of graph) (component_of graph) c chain (concat chains) inside) are.0)
      (trails_of_chains chains (inside_rest (rotations_of graph) (component_of graph) c chain (concat chains) inside) are.1)

  module _ (e : Edge) (s : ℕ) (below : s < length (half_edges_of graph.edges)) (ahead : half_edge_of graph s ≡ forth e) where
    -- a number of a half-edge of e is s, or its twin has the number s
    of_edge : (a : ℕ) → a < length (half_edges_of graph.edges) → IsHalfEdgeOf e (half_edge_of graph a) → (a ≡ s) ⊎ (twin_number a ≡ s)
    of_edge a below_a (inl same) = inl (one_half is a s below_a below (same ∙ sym ahead))
    of_edge a below_a (inr turned) =
        inr (one_half is (twin_number a) s (is.rotation.twin_in a below_a) below (half_twin is a below_a ∙ ap twin turned ∙ sym ahead))

    none_of_edge : (order : List ℕ) → Inside (rotations_of graph) (component_of graph) c order → (Has (rotations_of graph) order s → ⊥) →
        HasCount (IsHalfEdgeOf e) (map (half_edge_of graph) order) 0
    none_of_edge [] inside not = ([], none, refl)
    none_of_edge (a ∷ l) inside not =
        let rest = none_of_edge l inside.2 (λ has. not (inr (inr has))) in
        (rest.0, passed (λ of_e. elim (of_edge a inside.0 of_e) [ inl same ↦ not (inl same) | inr turned ↦ not (inr (inl turned)) ]) rest.1, rest.2)

    -- where s stands, its edge stands once
    once_of_edge : (order : List ℕ) → Inside (rotations_of graph) (component_of graph) c order → Once (rotations_of graph) order → Has (rotations_of graph) order s →
        HasCount (IsHalfEdgeOf e) (map (half_edge_of graph) order) 1
    once_of_edge [] inside once has = absurd has
    once_of_edge (a ∷ l) inside once (inl same) =
        let rest = none_of_edge l inside.2 (λ has. once.0 (subst (Has (rotations_of graph) l) (sym same) has)) in
        (half_edge_of graph a ∷ rest.0, taken (inl (ap (half_edge_of graph) same ∙ ahead)) rest.1, omega (arith, rest.2))
    once_of_edge (a ∷ l) inside once (inr (inl same)) =
        let rest = none_of_edge l inside.2 (λ has. once.0 (Has-half_twin is l a (subst (Has (rotations_of graph) l) (sym same) has))) in
        let turned : twin (half_edge_of graph a) ≡ forth e = sym (half_twin is a inside.0) ∙ ap (half_edge_of graph) same ∙ ahead in
        (half_edge_of graph a ∷ rest.0, taken (inr (ap twin turned)) rest.1, omega (arith, rest.2))
    once_of_edge (a ∷ l) inside once (inr (inr has)) =
        let rest = once_of_edge l inside.2 once.1 has in (
          rest.0,
          passed (λ of_e. elim (of_edge a inside.0 of_e) [
            | inl same ↦ once.0 (subst (Has (rotations_of graph) l) (sym same) has)
            | inr turned ↦ once.0 (Has-half_twin is l a (subst (Has (rotations_of graph) l) (sym turned) has))
          ]) rest.1,
          rest.2,
        )

  module _ (mark : Point) (at : slice_get graph.marks c ≡ Some mark) where
    -- each trail lies in the component
    pub trails_inside : (chains : List (List ℕ)) → Inside (rotations_of graph) (component_of graph) c (concat chains) → All (All (IsIn graph.edges mark)) (map (map (half_edge_of graph)) chains)
    trails_inside [] inside = All-nil (All (IsIn graph.edges mark))
    trails_inside (chain ∷ chains) inside =
        All-cons (All (IsIn graph.edges mark)) (map (half_edge_of graph) chain) (map (map (half_edge_of graph)) chains)
        (All-from_contains (IsIn graph.edges mark) (map (half_edge_of graph) chain)
        (lie_inside is c mark at chain (inside_front (rotations_of graph) (component_of graph) c chain (concat chains) inside)))
        (trails_inside chains (inside_rest (rotations_of graph) (component_of graph) c chain (concat chains) inside))

    -- and all edges of the component stand once
    pub covers_within : (start : ℕ) → start < length (half_edges_of graph.edges) → IsOuterSide graph.edges mark (half_edge_of graph start) → (chains : List (List ℕ)) → AllByRecursion (IsSideChain (rotations_of graph)) chains → Inside (rotations_of graph) (component_of graph) c (concat chains) →
        Once (rotations_of graph) (concat chains) → Encloses (rotations_of graph) (λ s. s ≡ start) (concat chains) →
        ((s : ℕ) → s < length (half_edges_of graph.edges) → component_of graph (origin_of graph s) ≡ c → Has (rotations_of graph) (concat chains) s) →
        CoversWithin graph.edges mark (map (map (half_edge_of graph)) chains)
    covers_within start start_below outer chains are inside once encloses whole = record {
      are_trails = trails_of_chains chains inside are;
      each_once = λ e stands in_mark.
          let s = number_of is (forth e) (e, stands, inl refl) in
          let number = component_is is s.0 c (half_edge_of graph s.0) mark (has_number graph s.0 s.1) at (subst (IsIn graph.edges mark) (sym s.2) in_mark) in
          subst (λ l. HasCount (IsHalfEdgeOf e) l 1) (joined-map (half_edge_of graph) chains) (once_of_edge e s.0 s.1 s.2 (concat chains) inside once (whole s.0 s.1 number));
      order = subst (IsOrderWithin graph.edges mark) (joined-map (half_edge_of graph) chains)
          (order_within is c mark at start start_below outer (concat chains) inside once encloses);
    }
