-- The edges of a graph are read back from the vertices that its half-edges leave.
use Rattle.std.proofs.Common.{arith, ◌≡◌, ℕ, suc, List, [], ◌∷◌, Some, length, slice_get, refl, sym, subst, pos, ◌∙◌}
use Rattle.std.proofs.lemmas.Option.{get_or_from_slice_get, same_Some}
use Rattle.nest_base.specs.declared.places.Point.{Point}
use Rattle.nest_base.specs.declared.places.Edge.{Edge}
use Rattle.nest_base.specs.Plane.{HalfEdge, twin}
use Rattle.plate_sides.specs.HalfEdges.{forth}
use Rattle.half_edges.specs.Numbers.{half_edges_of, IsSide}
use Rattle.half_edges.specs.Graph.{vertex_at, edges_between}

-- the vertex with a number, where it is known that the number is v
at_number : (vertices : List Point) (origins : List ℕ) (s u v : ℕ) (p : Point) →
    slice_get origins s ≡ Some u → slice_get origins s ≡ Some v → slice_get vertices v ≡ Some p → vertex_at vertices u ≡ p
at_number vertices origins s u v p h k at =
    let same : v ≡ u = same_Some v u (sym k ∙ h) in
    get_or_from_slice_get vertices u p (record { x = pos 0; y = pos 0 }) (subst (λ n. slice_get vertices n ≡ Some p) same at)

-- origins and vertices that tell where each half-edge begins give the edges back
pub edges_between-same : (edges : List Edge) (vertices : List Point) (origins : List ℕ) → length origins ≡ length (half_edges_of edges) →
    ((s : ℕ) (h : HalfEdge) → IsSide edges s h → (v : ℕ) × (slice_get origins s ≡ Some v) × (slice_get vertices v ≡ Some h.from)) →
    edges_between vertices origins ≡ edges
edges_between-same [] vertices [] n leaves = refl
edges_between-same [] vertices (u ∷ origins) n leaves = absurd (omega (arith, n))
edges_between-same (e ∷ edges) vertices [] n leaves = absurd (omega (arith, n))
edges_between-same (e ∷ edges) vertices (u ∷ []) n leaves = absurd (omega (arith, n))
edges_between-same (e ∷ edges) vertices (u ∷ v ∷ origins) n leaves =
    let first = leaves 0 (forth e) refl in
    let second = leaves 1 (twin (forth e)) refl in
    let low = at_number vertices (u ∷ v ∷ origins) 0 u first.0 e.low refl first.1 first.2 in
    let high = at_number vertices (u ∷ v ∷ origins) 1 v second.0 e.high refl second.1 second.2 in
    let rest = edges_between-same edges vertices origins (omega (arith, n)) (λ s h is. leaves (suc (suc s)) h is) in
    λ i. record { low = low i; high = high i } ∷ rest i
