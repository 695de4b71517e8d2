-- Numbers of half-edges of one edge.
use Rattle.std.proofs.Common.{◌≡◌, ℕ, ◌⊎◌, inl, inr, sym, subst}
use Rattle.nest_base.specs.declared.places.Edge.{Edge}
use Rattle.nest_base.specs.Plane.{HalfEdge}
use Rattle.plate_sides.specs.HalfEdges.{IsHalfEdgeOf}
use Rattle.plate_sides.proofs.HalfEdges.{same_or_twin}
use Rattle.rotation_systems.specs.Twins.{twin_number}
use Rattle.half_edges.specs.Numbers.{IsSide}
use Rattle.half_edges.specs.Graph.{Graph}
use Rattle.half_edges.specs.PlaneGraphs.{IsPlaneGraph}
use Rattle.half_edges.specs.Burns.{AreOfTwoEdges}
use Rattle.half_edges.proofs.Twins.{IsSide-twin}
use Rattle.face_nesting.proofs.KnownGraph.{one_number}

module _ {graph : Graph} (known : IsPlaneGraph graph) where
  -- two half-edges of one edge have one number, or those of twins
  pub same_edge : (e : Edge) (s t : ℕ) (g h : HalfEdge) → IsHalfEdgeOf e g → IsHalfEdgeOf e h → IsSide graph.edges s g → IsSide graph.edges t h → (s ≡ t) ⊎ (s ≡ twin_number t)
  same_edge e s t g h of_e too is_g is_h = elim (same_or_twin e g h of_e too) [
    | inl same ↦ inl (one_number known s t g is_g (subst (IsSide graph.edges t) (sym same) is_h))
    | inr back ↦ inr (one_number known s (twin_number t) g is_g (subst (IsSide graph.edges (twin_number t)) (sym back) (IsSide-twin graph.edges t h is_h)))
  ]

  -- so they aren't of two
  pub not_of_two : (e : Edge) (s t : ℕ) (g h : HalfEdge) → IsHalfEdgeOf e g → IsHalfEdgeOf e h → IsSide graph.edges s g → IsSide graph.edges t h → AreOfTwoEdges s t → ⊥
  not_of_two e s t g h of_e too is_g is_h two = elim (same_edge e s t g h of_e too is_g is_h) [ inl same ↦ two.0 same | inr back ↦ two.1 back ]
