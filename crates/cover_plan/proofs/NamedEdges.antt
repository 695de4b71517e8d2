-- The edges of an order of numbers are those of the half-edges with these numbers.
use Rattle.std.proofs.Common.{◌≡◌, ℕ, ◌<◌, inl, inr, List, [], ◌∷◌, ◌++◌, length, map, sym, ap, subst, ◌∙◌}
use Rattle.std.specs.Prelude.{Contains}
use Rattle.std.proofs.lemmas.List.Elements.{Contains-append_right}
use Rattle.nest_base.specs.Plane.{HalfEdge, twin}
use Rattle.nest_base.proofs.Lists.{Contains-head, Contains-later, Contains-cases, Contains-none}
use Rattle.plate_sides.specs.Reach.{HasEdge}
use Rattle.half_edges.specs.Numbers.{half_edges_of}
use Rattle.rotation_systems.specs.Twins.{twin_number}
use Rattle.half_edges.specs.Graph.{Graph, rotations_of, component_of}
use Rattle.cover_walks.specs.Orders.{Has}
use Rattle.cover_walks.specs.Walks.{Inside}
use Rattle.cover_walks.proofs.Holdings.{Has-twin}
use Rattle.half_edges.specs.PlaneGraphs.{IsPlaneGraph}
use Rattle.cover_plan.specs.Trails.{half_edge_of}
use Rattle.cover_plan.proofs.GraphHalves.{one_half, half_twin}

pub HasEdge-later : (x : HalfEdge) (xs : List HalfEdge) (h : HalfEdge) → HasEdge xs h → HasEdge (x ∷ xs) h
HasEdge-later x xs h (inl c) = inl (Contains-later x h xs c)
HasEdge-later x xs h (inr c) = inr (Contains-later x (twin h) xs c)

pub HasEdge-append_right : (xs ys : List HalfEdge) (h : HalfEdge) → HasEdge ys h → HasEdge (xs ++ ys) h
HasEdge-append_right xs ys h (inl c) = inl (Contains-append_right xs ys h c)
HasEdge-append_right xs ys h (inr c) = inr (Contains-append_right xs ys (twin h) c)

pub HasEdge-twin : (xs : List HalfEdge) (h : HalfEdge) → HasEdge xs (twin h) → HasEdge xs h
HasEdge-twin xs h (inl c) = inr c
HasEdge-twin xs h (inr c) = inl c

module _ {graph : Graph} (is : IsPlaneGraph graph) where
  -- an edge has the half-edges with both its numbers
  pub Has-half_twin : (order : List ℕ) (s : ℕ) → Has (rotations_of graph) order (twin_number s) → Has (rotations_of graph) order s
  Has-half_twin order s has = subst (Has (rotations_of graph) order) (is.rotation.twin_twin s) (Has-twin (rotations_of graph) is.rotation order (twin_number s) has)

  module _ (c : ℕ) where
    -- what the numbers have, the half-edges have
    pub edge_from_number : (order : List ℕ) → Inside (rotations_of graph) (component_of graph) c order → (s : ℕ) → Has (rotations_of graph) order s →
        HasEdge (map (half_edge_of graph) order) (half_edge_of graph s)
    edge_from_number [] inside s has = absurd has
    edge_from_number (a ∷ l) inside s (inl same) =
        let there = Contains-head (half_edge_of graph a) (map (half_edge_of graph) l) in
        inl (subst (λ k. Contains (half_edge_of graph a ∷ map (half_edge_of graph) l) (half_edge_of graph k)) same there)
    edge_from_number (a ∷ l) inside s (inr (inl same)) =
        let turned : half_edge_of graph a ≡ twin (half_edge_of graph s) = ap twin (sym (half_twin is a inside.0) ∙ ap (half_edge_of graph) same) in
        inr (subst (Contains (half_edge_of graph a ∷ map (half_edge_of graph) l)) turned (Contains-head (half_edge_of graph a) (map (half_edge_of graph) l)))
    edge_from_number (a ∷ l) inside s (inr (inr later)) =
        HasEdge-later (half_edge_of graph a) (map (half_edge_of graph) l) (half_edge_of graph s) (edge_from_number l inside.2 s later)

    -- and the other way round
    number_from_half : (order : List ℕ) → Inside (rotations_of graph) (component_of graph) c order → (s : ℕ) → s < length (half_edges_of graph.edges) →
        Contains (map (half_edge_of graph) order) (half_edge_of graph s) → Has (rotations_of graph) order s
    number_from_half [] inside s below stands = absurd (Contains-none (half_edge_of graph s) stands)
    number_from_half (a ∷ l) inside s below stands = elim (Contains-cases (half_edge_of graph a) (half_edge_of graph s) (map (half_edge_of graph) l) stands) [
      | inl same ↦ inl (one_half is a s inside.0 below same)
      | inr later ↦ inr (inr (number_from_half l inside.2 s below later))
    ]

    pub number_from_edge : (order : List ℕ) → Inside (rotations_of graph) (component_of graph) c order → (s : ℕ) → s < length (half_edges_of graph.edges) →
        HasEdge (map (half_edge_of graph) order) (half_edge_of graph s) → Has (rotations_of graph) order s
    number_from_edge order inside s below (inl stands) = number_from_half order inside s below stands
    number_from_edge order inside s below (inr stands) =
        let other = subst (Contains (map (half_edge_of graph) order)) (sym (half_twin is s below)) stands in
        Has-half_twin order s (number_from_half order inside (twin_number s) (is.rotation.twin_in s below) other)
