-- What an order of numbers is, edge after edge, the order of its half-edges is wherever it is cut.
use Rattle.std.proofs.Common.{◌≡◌, ℕ, ◌<◌, inl, inr, List, [], ◌∷◌, ◌++◌, length, map, sym, ap, subst, ◌∙◌}
use Rattle.std.specs.Prelude.{Contains, Some, slice_get}
use Rattle.nest_base.specs.declared.places.Point.{Point}
use Rattle.nest_base.specs.Plane.{HalfEdge, twin}
use Rattle.nest_base.proofs.Lists.{Contains-cases, Contains-none}
use Rattle.plate_sides.specs.Components.{IsIn}
use Rattle.plate_sides.specs.Links.{IsOuterSide}
use Rattle.plate_sides.specs.Reach.{HasEdge}
use Rattle.plate_sides.specs.Enclosing.{ReachesEdgeOf, IsEnclosingWithin}
use Rattle.plate_sides.specs.Plans.{HasNoEdgeTwice, IsOrderWithin}
use Rattle.plate_nesting.proofs.Cuts.{same_first, same_rest, no_cut}
use Rattle.half_edges.specs.Numbers.{half_edges_of}
use Rattle.rotation_systems.specs.Twins.{twin_number}
use Rattle.half_edges.specs.Graph.{Graph, rotations_of, component_of}
use Rattle.face_nesting.proofs.KnownGraph.{lies_in, is_mark_at}
use Rattle.cover_walks.specs.Orders.{Once, Encloses}
use Rattle.cover_walks.specs.Walks.{Inside}
use Rattle.half_edges.specs.PlaneGraphs.{IsPlaneGraph}
use Rattle.cover_plan.specs.Trails.{half_edge_of}
use Rattle.cover_plan.proofs.GraphHalves.{has_number, half_twin}
use Rattle.cover_plan.proofs.JoinedHalves.{joined_is_reached}
use Rattle.cover_plan.proofs.NamedEdges.{HasEdge-append_right, HasEdge-twin, number_from_edge}

module _ {graph : Graph} (is : IsPlaneGraph graph) (c : ℕ) where
  -- an order in which no number stands twice has no edge twice
  once_by_cuts : (order : List ℕ) → Inside (rotations_of graph) (component_of graph) c order → Once (rotations_of graph) order → HasNoEdgeTwice (map (half_edge_of graph) order)
  once_by_cuts [] inside once burnt s later e t has has_burnt = absurd (no_cut burnt s later e)
  once_by_cuts (a ∷ l) inside once [] s later e t has (inl stands) = absurd (Contains-none t stands)
  once_by_cuts (a ∷ l) inside once [] s later e t has (inr stands) = absurd (Contains-none (twin t) stands)
  once_by_cuts (a ∷ l) inside once (b ∷ burnt) s later e t has has_burnt =
      let first : half_edge_of graph a ≡ b = same_first (half_edge_of graph a) b (map (half_edge_of graph) l) (burnt ++ s ∷ later) e in
      let rest : map (half_edge_of graph) l ≡ burnt ++ s ∷ later = same_rest (half_edge_of graph a) b (map (half_edge_of graph) l) (burnt ++ s ∷ later) e in
      let stands : HasEdge (map (half_edge_of graph) l) t = subst (λ xs. HasEdge xs t) (sym rest) (HasEdge-append_right burnt (s ∷ later) t has) in
      let not_first : HasEdge (map (half_edge_of graph) l) (half_edge_of graph a) → ⊥ = λ again. once.0 (number_from_edge is c l inside.2 a inside.0 again) in
      elim has_burnt [
        | inl stands_burnt ↦ elim (Contains-cases b t burnt stands_burnt) [
          | inl same ↦ not_first (subst (HasEdge (map (half_edge_of graph) l)) (sym (first ∙ same)) stands)
          | inr more ↦ once_by_cuts l inside.2 once.1 burnt s later rest t has (inl more)
        ]
        | inr stands_burnt ↦ elim (Contains-cases b (twin t) burnt stands_burnt) [
          | inl same ↦
              not_first (HasEdge-twin (map (half_edge_of graph) l) (half_edge_of graph a) (subst (HasEdge (map (half_edge_of graph) l)) (sym (ap twin (first ∙ same))) stands))
          | inr more ↦ once_by_cuts l inside.2 once.1 burnt s later rest t has (inr more)
        ]
      ]

  module _ (mark : Point) (at : slice_get graph.marks c ≡ Some mark) where
    -- the half-edges lie in the component
    pub lie_inside : (order : List ℕ) → Inside (rotations_of graph) (component_of graph) c order → (h : HalfEdge) → Contains (map (half_edge_of graph) order) h → IsIn graph.edges mark h
    lie_inside [] inside h stands = absurd (Contains-none h stands)
    lie_inside (a ∷ l) inside h stands = elim (Contains-cases (half_edge_of graph a) h (map (half_edge_of graph) l) stands) [
      | inl same ↦ subst (IsIn graph.edges mark) same (lies_in is a c (half_edge_of graph a) mark (has_number graph a inside.0) at inside.1)
      | inr later ↦ lie_inside l inside.2 h later
    ]

    module _ (start : ℕ) (start_below : start < length (half_edges_of graph.edges)) (outer : IsOuterSide graph.edges mark (half_edge_of graph start)) where
      encloses_by_cuts : (order : List ℕ) → Inside (rotations_of graph) (component_of graph) c order → Encloses (rotations_of graph) (λ s. s ≡ start) order →
          IsEnclosingWithin graph.edges mark (map (half_edge_of graph) order)
      encloses_by_cuts [] inside encloses burnt s later e = absurd (no_cut burnt s later e)
      encloses_by_cuts (a ∷ l) inside encloses [] s later e =
          let first : half_edge_of graph a ≡ s = same_first (half_edge_of graph a) s (map (half_edge_of graph) l) later e in
          let over = map (half_edge_of graph) (a ∷ l) in
          let one = joined_is_reached is c mark start start_below outer (a ∷ l) inside a inside.0 encloses.0 in
          let other = subst (ReachesEdgeOf graph.edges mark over) (half_twin is a inside.0)
          (joined_is_reached is c mark start start_below outer (a ∷ l) inside (twin_number a) (is.rotation.twin_in a inside.0) encloses.1) in (
            subst (ReachesEdgeOf graph.edges mark (s ∷ later)) first (subst (λ o. ReachesEdgeOf graph.edges mark o (half_edge_of graph a)) e one),
            subst (λ t. ReachesEdgeOf graph.edges mark (s ∷ later) (twin t)) first (subst (λ o. ReachesEdgeOf graph.edges mark o (twin (half_edge_of graph a))) e other),
          )
      encloses_by_cuts (a ∷ l) inside encloses (b ∷ burnt) s later e =
          encloses_by_cuts l inside.2 encloses.2 burnt s later (same_rest (half_edge_of graph a) b (map (half_edge_of graph) l) (burnt ++ s ∷ later) e)

      pub order_within : (order : List ℕ) → Inside (rotations_of graph) (component_of graph) c order → Once (rotations_of graph) order →
          Encloses (rotations_of graph) (λ s. s ≡ start) order → IsOrderWithin graph.edges mark (map (half_edge_of graph) order)
      order_within order inside once encloses = record {
        mark_vertex = is_mark_at is c mark at;
        inside = lie_inside order inside;
        once = once_by_cuts order inside once;
        enclosing = encloses_by_cuts order inside encloses;
      }
