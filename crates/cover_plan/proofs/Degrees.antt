-- The degree of a vertex of a plane graph is the number of half-edges that leave it.
use Rattle.std.proofs.Common.{◌≡◌, ◌⊎◌, inl, inr, ℕ, ◌%◌, cond, length, sym, ap, subst, ◌∙◌}
use Rattle.std.specs.Prelude.{Contains, slice_get}
use Rattle.std.proofs.lemmas.Bool.Decides.{eqb_tells}
use Rattle.nest_base.specs.declared.places.Edge.{Edge}
use Rattle.nest_base.specs.Plane.{HalfEdge}
use Rattle.nest_base.specs.Selection.{Enumerates}
use Rattle.nest_base.proofs.Selections.{same_count}
use Rattle.plate_sides.specs.HalfEdges.{IsHalfEdge, Leaves}
use Rattle.plate_sides.specs.Odd.{HasDegree}
use Rattle.half_edges.specs.Numbers.{half_edges_of}
use Rattle.rotation_systems.specs.RotationSystem.{same, degree}
use Rattle.half_edges.specs.Graph.{rotations_of, origin_of}
use Rattle.half_edges.proofs.Degrees.{degree_of_sides}
use Rattle.cover_plan.specs.Trails.{half_edge_of}
use Rattle.cover_plan.specs.Laws.{DegreesAreCounted, OddIsTold}
use Rattle.cover_plan.proofs.GraphHalves.{is_half_edge, number_of, one_half, origin_is, left_at}
use Rattle.cover_plan.proofs.Listed.{listed}
use Rattle.nest_base.proofs.ListReads.{one_read}

same_tells : (u v : ℕ) → ((u ≡ v) × (same u v ≡ 1)) ⊎ ((u ≡ v → ⊥) × (same u v ≡ 0))
same_tells u v = elim (eqb_tells u v) [ inl h ↦ inl (h.1, ap (λ b. cond b 1 0) h.0) | inr h ↦ inr (h.1, ap (λ b. cond b 1 0) h.0) ]

pub degrees_are_counted : DegreesAreCounted
degrees_are_counted graph is v p at =
    let sides = length (half_edges_of graph.edges) in
    let leaving = listed HalfEdge (half_edge_of graph) (λ s. origin_of graph s ≡ v) (λ s. same (origin_of graph s) v) sides
    (λ s below. same_tells (origin_of graph s) v) (λ s t. one_half is s t) in
    let all : Enumerates (Leaves graph.edges p) leaving.list = record {
      each_once = leaving.each_once;
      are_all = λ h. (
        λ c. let s = leaving.stand h c in
            let from = one_read graph.vertices v (half_edge_of graph s.0).from p (ap (slice_get graph.vertices) (sym s.3) ∙ left_at is s.0 s.1) at in
            (subst (IsHalfEdge graph.edges) s.2 (is_half_edge is s.0 s.1), ap (λ (g : HalfEdge). g.from) (sym s.2) ∙ from),
        λ leaves. let s = number_of is h leaves.0 in
            subst (Contains leaving.list) s.2 (leaving.every s.0 s.1 (origin_is is s.0 v p s.1 at (ap (λ (g : HalfEdge). g.from) s.2 ∙ leaves.1))),
      );
    } in
    subst (HasDegree graph.edges p) leaving.as_many (degree_of_sides graph.edges p leaving.list is.ends_in_order is.each_once all)

pub odd_is_told : OddIsTold
odd_is_told graph is v p at =
    let counted = degrees_are_counted graph is v p at in (
      λ odd. ap (λ n. n % 2) (same_count (λ (e : Edge). (e.low ≡ p) ⊎ (e.high ≡ p)) graph.edges (degree (rotations_of graph) v) odd.0 counted odd.1) ∙ odd.2,
      λ is_odd. (degree (rotations_of graph) v, counted, is_odd),
    )
