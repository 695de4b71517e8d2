-- The odd vertices of a component of a plane graph, by number.
use Rattle.std.proofs.Common.{arith, ◌≡◌, ◌⊎◌, inl, inr, ℕ, ◌+◌, ◌<◌, ◌%◌, cond, List, [], length, sym, ap, subst, ◌∙◌}
use Rattle.std.specs.Prelude.{Contains, Some, slice_get, ◌↔◌}
use Rattle.std.proofs.lemmas.Bool.Decides.{eqb_tells}
use Rattle.std.proofs.lemmas.Option.{slice_get_within}
use Rattle.nest_base.specs.declared.places.Point.{Point}
use Rattle.plate_sides.specs.Components.{SameComponent, IsIn}
use Rattle.plate_sides.proofs.Vertices.{joined_is_vertex}
use Rattle.plate_sides.specs.Odd.{IsOdd, AreOddVertices}
use Rattle.rotation_systems.specs.RotationSystem.{degree}
use Rattle.half_edges.specs.Graph.{Graph, rotations_of, component_of, vertex_at}
use Rattle.nest_base.proofs.ListReads.{read_below, read_from_Contains}
use Rattle.face_nesting.proofs.KnownGraph.{component_is, lies_in, is_mark_at}
use Rattle.cover_walks.specs.Walks.{is_odd, odd_within, odd_count}
use Rattle.half_edges.specs.PlaneGraphs.{IsPlaneGraph}
use Rattle.cover_plan.specs.Trails.{half_edge_of}
use Rattle.cover_plan.specs.Laws.{OddVerticesAreCounted}
use Rattle.cover_plan.proofs.Degrees.{odd_is_told}
use Rattle.cover_plan.proofs.GraphHalves.{has_number, is_half_edge, vertex_is, one_vertex, leaving}
use Rattle.cover_plan.proofs.Listed.{Tells, HaveImages, listed}

pub one_or_zero : (n : ℕ) → (n % 2 ≡ 1) ⊎ ((n % 2 ≡ 1 → ⊥) × (n % 2 ≡ 0))
one_or_zero n = grind arith

module _ {graph : Graph} (is : IsPlaneGraph graph) where
  -- before any edge is burnt
  pub odd_at_first : (v : ℕ) (p : Point) → slice_get graph.vertices v ≡ Some p → IsOdd graph.edges p ↔ (is_odd (rotations_of graph) [] v ≡ 1)
  odd_at_first v p at =
      let none : degree (rotations_of graph) v + 0 ≡ degree (rotations_of graph) v = omega arith in
      subst (λ n. IsOdd graph.edges p ↔ (n % 2 ≡ 1)) (sym none) (odd_is_told graph is v p at)

  vertex_below : (v : ℕ) → v < length graph.vertices → slice_get graph.vertices v ≡ Some (vertex_at graph.vertices v)
  vertex_below v below =
      let p = read_below graph.vertices v below in
      subst (λ q. slice_get graph.vertices v ≡ Some q) (sym (vertex_is graph.vertices v p.0 p.1)) p.1

  one_number_each : HaveImages Point (vertex_at graph.vertices) (length graph.vertices)
  one_number_each u v below_u below_v same =
      one_vertex is u v (vertex_at graph.vertices u) (vertex_below u below_u) (vertex_below v below_v ∙ ap Some (sym same))

  module _ (c : ℕ) (mark : Point) (at_c : slice_get graph.marks c ≡ Some mark) where
    -- the vertices of a component have its number
    pub in_component : (v : ℕ) (p : Point) → slice_get graph.vertices v ≡ Some p → (component_of graph v ≡ c) ↔ SameComponent graph.edges p mark
    in_component v p at =
        let s = leaving is v p at in
        let side = has_number graph s.0 s.1 in (
          λ number.
              let inside = lies_in is s.0 c (half_edge_of graph s.0) mark side at_c (ap (component_of graph) s.2 ∙ number) in
              subst (λ q. SameComponent graph.edges q mark) s.3 inside.1,
          λ joined.
              let inside : IsIn graph.edges mark (half_edge_of graph s.0) = (is_half_edge is s.0 s.1, subst (λ q. SameComponent graph.edges q mark) (sym s.3) joined) in
              ap (component_of graph) (sym s.2) ∙ component_is is s.0 c (half_edge_of graph s.0) mark side at_c inside,
        )

    -- a vertex of the component with an odd number of half-edges
    IsOddIn : ℕ → Type 0
    IsOddIn v = (component_of graph v ≡ c) × (is_odd (rotations_of graph) [] v ≡ 1)

    odd_tells : (v : ℕ) → Tells IsOddIn (odd_within (rotations_of graph) (component_of graph) c []) v
    unfolding IsOddIn
    odd_tells v =
        let odd = is_odd (rotations_of graph) [] v in
        elim (eqb_tells (component_of graph v) c) [
          | inl there ↦ elim (one_or_zero (degree (rotations_of graph) v + 0)) [
            | inl one ↦ inl ((there.1, one), ap (λ b. cond b odd 0) there.0 ∙ one)
            | inr none ↦ inr ((λ has. none.0 has.1), ap (λ b. cond b odd 0) there.0 ∙ none.1)
          ]
          | inr elsewhere ↦ inr ((λ has. elsewhere.1 has.0), ap (λ b. cond b odd 0) elsewhere.0)
        ]

    vertex_number : (p : Point) → SameComponent graph.edges p mark → (v : ℕ) × (slice_get graph.vertices v ≡ Some p)
    vertex_number p joined =
        let vertex = joined_is_vertex graph.edges (is_mark_at is c mark at_c).vertex joined in
        read_from_Contains graph.vertices p ((is.are_vertices.are_all p).1 vertex)

    pub odd_vertices : (odd : List Point) × AreOddVertices graph.edges mark odd × (length odd ≡ odd_count (rotations_of graph) (component_of graph) c (length graph.vertices) [])
    unfolding IsOddIn
    odd_vertices =
        let all = listed Point (vertex_at graph.vertices) IsOddIn (odd_within (rotations_of graph) (component_of graph) c []) (length graph.vertices) (λ v below. odd_tells v) one_number_each in (
          all.list,
          record {
            each_once = all.each_once;
            are_all = λ p. (
              λ stands. let v = all.stand p stands in
                  let at : slice_get graph.vertices v.0 ≡ Some p = vertex_below v.0 v.1 ∙ ap Some v.2 in
                  ((in_component v.0 p at).0 v.3.0, (odd_at_first v.0 p at).1 v.3.1),
              λ facts. let v = vertex_number p facts.0 in
                  let stands = all.every v.0 (slice_get_within graph.vertices v.0 p v.1) ((in_component v.0 p v.1).1 facts.0, (odd_at_first v.0 p v.1).0 facts.1) in
                  subst (Contains all.list) (vertex_is graph.vertices v.0 p v.1) stands,
            );
          },
          all.as_many,
        )

pub odd_vertices_are_counted : OddVerticesAreCounted
odd_vertices_are_counted graph is c mark at = odd_vertices is c mark at
