-- A cover by numbers is a component's cover of a plan.
use Rattle.std.proofs.Common.{arith, ◌≡◌, ◌⊎◌, inl, inr, ℕ, ◌+◌, ◌<◌, ◌≤◌, List, [], length, map, refl, sym, ap, subst, ◌∙◌}
use Rattle.std.specs.Prelude.{Some, slice_get}
use Rattle.std.specs.List.{concat}
use Rattle.std.proofs.lemmas.List.{length-map}
use Rattle.std.proofs.lemmas.Option.{slice_get_within}
use Rattle.nest_base.specs.declared.places.Point.{Point}
use Rattle.nest_base.specs.Plane.{HalfEdge}
use Rattle.plate_sides.specs.Links.{IsOuterSide}
use Rattle.plate_sides.specs.Odd.{AreOddVertices}
use Rattle.plate_sides.specs.Limit.{IsLimit, HasOuter}
use Rattle.plate_sides.specs.Starts.{IsStart}
use Rattle.plate_sides.specs.ComponentCovers.{IsComponentCover}
use Rattle.plate_nesting.proofs.Components.{outer_side_is_in}
use Rattle.half_edges.specs.Numbers.{half_edges_of, IsSide}
use Rattle.rotation_systems.specs.RotationSystem.{degree}
use Rattle.half_edges.specs.Graph.{Graph, rotations_of, component_of, origin_of}
use Rattle.face_nesting.proofs.KnownGraph.{component_is}
use Rattle.cover_walks.specs.Orders.{Has, Once, Encloses}
use Rattle.cover_walks.specs.Walks.{Inside, is_odd, odd_count}
use Rattle.cover_walks.specs.Chains.{chains_of}
use Rattle.cover_walks.specs.Covers.{IsCoverOrder}
use Rattle.cover_walks.proofs.Cuts.{chains_concat, chains_are, chains_count}
use Rattle.half_edges.specs.PlaneGraphs.{IsPlaneGraph}
use Rattle.cover_plan.specs.Trails.{half_edge_of, trails_of}
use Rattle.cover_plan.specs.Laws.{CoversAreComponentCovers, CoversEndAtTheirStart}
use Rattle.cover_plan.proofs.GraphHalves.{half_is}
use Rattle.cover_plan.proofs.LastEnds.{last_ends}
use Rattle.cover_plan.proofs.Limits.{within_limit}
use Rattle.cover_plan.proofs.OddVertices.{odd_at_first, odd_vertices, one_or_zero}
use Rattle.cover_plan.proofs.TrailsOnPlate.{covers_within, trails_inside}

pub covers_end_at_their_start : CoversEndAtTheirStart
covers_end_at_their_start graph is s h side order cover =
    last_ends is (component_of graph (origin_of graph s)) (origin_of graph s) h.from (is.leaves s h side) order cover.some cover.inside cover.last

module _ {graph : Graph} (is : IsPlaneGraph graph) (c : ℕ) (mark : Point) (at : slice_get graph.marks c ≡ Some mark) (s : ℕ) (h : HalfEdge) (side : IsSide graph.edges s h)
    (begins : IsStart graph.edges mark h) where
  -- the start lies in the component
  pub component_of_start : component_of graph (origin_of graph s) ≡ c
  component_of_start = component_is is s c h mark side at (outer_side_is_in graph.edges mark h begins.outer)

  -- it leaves an odd vertex exactly where some odd vertex is an outer one
  odd_at_start : (odd : List Point) → AreOddVertices graph.edges mark odd →
      ((is_odd (rotations_of graph) [] (origin_of graph s) ≡ 1) × HasOuter graph.edges mark odd)
      ⊎ ((is_odd (rotations_of graph) [] (origin_of graph s) ≡ 0) × (HasOuter graph.edges mark odd → ⊥))
  odd_at_start odd are =
      let told = odd_at_first is (origin_of graph s) h.from (is.leaves s h side) in
      elim (one_or_zero (degree (rotations_of graph) (origin_of graph s) + 0)) [
        | inl one ↦ inl (one, (h.from, (are.are_all h.from).1 ((outer_side_is_in graph.edges mark h begins.outer).1, told.1 one), (h, begins.outer, refl)))
        | inr none ↦ inr (
          none.1,
          λ has.
              let facts = (are.are_all has.0).0 has.1 in none.0 (told.0 (begins.odd (has.0, facts.0, facts.1, has.2))),
        )
      ]

  module _ (order : List ℕ) (cover : IsCoverOrder (rotations_of graph) (component_of graph) s order) where
    limit : (n : ℕ) × IsLimit graph.edges mark n × (length (trails_of graph order) ≤ n)
    limit =
        let odd = odd_vertices is c mark at in
        let root = is_odd (rotations_of graph) [] (origin_of graph s) in
        let number = chains_count (rotations_of graph) order cover.some in
        let some : 0 < length (chains_of (rotations_of graph) order) = omega (arith, number) in
        let in_c = ap (λ d. odd_count (rotations_of graph) (component_of graph) d (length graph.vertices) []) component_of_start in
        let few : (length (chains_of (rotations_of graph) order) + root ≤ length odd.0) ⊎ ((length (chains_of (rotations_of graph) order) ≡ 1) × (root ≡ 0)) =
        elim (cover.few (length graph.vertices) is.below) [
          | inl less ↦ inl (omega (arith, less, number, in_c, odd.2))
          | inr one ↦ inr (omega (arith, number, one.0), one.1)
        ] in
        let within = within_limit graph.edges mark odd.0 odd.1 root (odd_at_start odd.0 odd.1) (length (chains_of (rotations_of graph) order)) some few in
        (within.0, within.1, omega (arith, within.2, length-map (chains_of (rotations_of graph) order) (map (half_edge_of graph))))

    component_cover : IsComponentCover graph.edges mark (trails_of graph order)
    component_cover =
        let all = sym (chains_concat (rotations_of graph) order) in
        let inside : Inside (rotations_of graph) (component_of graph) c (concat (chains_of (rotations_of graph) order)) =
        subst (λ l. Inside (rotations_of graph) (component_of graph) c l) all (subst (λ d. Inside (rotations_of graph) (component_of graph) d order) component_of_start cover.inside) in
        let outer : IsOuterSide graph.edges mark (half_edge_of graph s) = subst (IsOuterSide graph.edges mark) (sym (half_is graph s h side)) begins.outer in
        record {
          covers = covers_within is c mark at s (slice_get_within (half_edges_of graph.edges) s h side) outer (chains_of (rotations_of graph) order)
              (chains_are (rotations_of graph) order) inside (subst (Once (rotations_of graph)) all cover.once)
              (subst (Encloses (rotations_of graph) (λ t. t ≡ s)) all cover.encloses)
              (λ t below number. subst (λ l. Has (rotations_of graph) l t) all (cover.whole t below (number ∙ sym component_of_start)));
          inside = trails_inside is c mark at (chains_of (rotations_of graph) order) inside;
          limit = limit;
        }

pub covers_are_component_covers : CoversAreComponentCovers
covers_are_component_covers graph is c mark at s h side begins order cover = component_cover is c mark at s h side begins order cover
