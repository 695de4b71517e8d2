-- Where the last trail ends.
use Rattle.std.proofs.Common.{arith, ◌≡◌, inl, inr, ℕ, ◌<◌, List, [], ◌∷◌, length, map, sym, ap, ◌∙◌}
use Rattle.std.specs.Prelude.{Some, slice_get}
use Rattle.std.proofs.lemmas.Bool.Decides.{eqb_tells}
use Rattle.nest_base.specs.declared.places.Point.{Point}
use Rattle.nest_base.specs.Plane.{HalfEdge}
use Rattle.plate_sides.specs.ComponentCovers.{LastEndsAt}
use Rattle.rotation_systems.specs.Twins.{twin_number}
use Rattle.rotation_systems.specs.RotationSystem.{to}
use Rattle.half_edges.specs.Graph.{Graph, rotations_of, component_of, origin_of}
use Rattle.nest_base.proofs.ListReads.{one_read}
use Rattle.cover_walks.specs.Walks.{Inside, EndsAt}
use Rattle.cover_walks.specs.Chains.{before_chains, chains_of}
use Rattle.half_edges.specs.PlaneGraphs.{IsPlaneGraph}
use Rattle.cover_plan.specs.Trails.{half_edge_of, trails_of}
use Rattle.cover_plan.proofs.GraphHalves.{half_twin, left_at}

module _ {graph : Graph} (is : IsPlaneGraph graph) (c : ℕ) (v : ℕ) (p : Point) (at : slice_get graph.vertices v ≡ Some p) where
  -- what comes before the chains doesn't change where they end
  ends_before : (a : ℕ) (chains : List (List ℕ)) → LastEndsAt (map (map (half_edge_of graph)) chains) p → LastEndsAt (map (map (half_edge_of graph)) (before_chains (rotations_of graph) a chains)) p
  ends_before a [] ends = absurd ends
  ends_before a ([] ∷ []) ends = absurd ends
  ends_before a ([] ∷ next ∷ rest) ends = ends
  ends_before a ((b ∷ chain) ∷ []) ends = elim (eqb_tells (to (rotations_of graph) a) (origin_of graph b)) [ inl e ↦ rw e.0 ends | inr e ↦ rw e.0 ends ]
  ends_before a ((b ∷ chain) ∷ next ∷ rest) ends = elim (eqb_tells (to (rotations_of graph) a) (origin_of graph b)) [ inl e ↦ rw e.0 ends | inr e ↦ rw e.0 ends ]

  pub last_ends : (order : List ℕ) → 0 < length order → Inside (rotations_of graph) (component_of graph) c order → EndsAt (rotations_of graph) v order → LastEndsAt (trails_of graph order) p
  last_ends [] some inside ends = absurd (omega (arith, some))
  last_ends (a ∷ []) some inside ends =
      let other = left_at is (twin_number a) (is.rotation.twin_in a inside.0) in
      let from = one_read graph.vertices v (half_edge_of graph (twin_number a)).from p (ap (slice_get graph.vertices) (sym ends) ∙ other) at in
      ap (λ (h : HalfEdge). h.from) (sym (half_twin is a inside.0)) ∙ from
  last_ends (a ∷ b ∷ l) some inside ends = ends_before a (chains_of (rotations_of graph) (b ∷ l)) (last_ends (b ∷ l) (omega arith) inside.2 ends)
