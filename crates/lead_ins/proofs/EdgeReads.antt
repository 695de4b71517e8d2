-- The edges of a graph, and where its half-edges begin.
use Rattle.std.proofs.Common.{arith, ◌≡◌, ◌<◌, ◌*◌, ℕ, List, inl, inr, length, sym, ap, subst, ◌∙◌}
use Rattle.std.specs.Prelude.{All, Some, slice_get}
use Rattle.std.proofs.lemmas.List.Elements.{All-contains}
use Rattle.std.proofs.lemmas.Option.{same_Some}
use Rattle.nest_base.specs.declared.places.Point.{Point}
use Rattle.nest_base.specs.declared.places.Edge.{Edge}
use Rattle.nest_base.specs.Plane.{HalfEdge}
use Rattle.nest_base.specs.Range.{IsWithin, IsEdgeWithin}
use Rattle.nest_base.proofs.ListReads.{read_below}
use Rattle.plate_sides.specs.HalfEdges.{IsHalfEdge, forth}
use Rattle.half_edges.specs.Numbers.{half_edges_of, IsSide}
use Rattle.half_edges.specs.Graph.{Graph}
use Rattle.half_edges.proofs.Numbers.{length-half_edges, side_low, side_is_half_edge}
use Rattle.cover_plan.specs.Trails.{half_edge_of}
use Rattle.cover_plan.proofs.GraphHalves.{has_number}

-- the half-edge from the low end of the edge at place k to the high one has a number
pub low_number : (edges : List Edge) (k : ℕ) → k < length edges → 2 * k < length (half_edges_of edges)
low_number edges k below = omega (arith, length-half_edges edges)

-- its two ends are those of the edge
pub edge_read : (edges : List Edge) (vertices : List Point) (k u v : ℕ) (low high : Point) → k < length edges →
    ((h : HalfEdge) → IsSide edges (2 * k) h → slice_get vertices u ≡ Some h.from) → slice_get vertices u ≡ Some low →
    ((h : HalfEdge) → IsSide edges (2 * k) h → slice_get vertices v ≡ Some h.to) → slice_get vertices v ≡ Some high →
    slice_get edges k ≡ Some (record { low = low; high = high })
edge_read edges vertices k u v low high below from at_u to at_v =
    let e = read_below edges k below in
    let side = side_low edges k e.0 e.1 in
    let is_low : e.0.low ≡ low = same_Some e.0.low low (sym (from (forth e.0) side) ∙ at_u) in
    let is_high : e.0.high ≡ high = same_Some e.0.high high (sym (to (forth e.0) side) ∙ at_v) in
    e.1 ∙ ap Some (λ i. record { low = is_low i; high = is_high i })

-- the vertices of edges that lie within a range do
pub from_within : (n : ℕ) (edges : List Edge) (h : HalfEdge) → All (IsEdgeWithin n) edges → IsHalfEdge edges h → IsWithin n h.from
from_within n edges h within (e, stands, inl same) =
    subst (λ (g : HalfEdge). IsWithin n g.from) (sym same) (All-contains (IsEdgeWithin n) edges e within stands).low
from_within n edges h within (e, stands, inr same) =
    subst (λ (g : HalfEdge). IsWithin n g.from) (sym same) (All-contains (IsEdgeWithin n) edges e within stands).high

pub beginning_within : (n : ℕ) (graph : Graph) (s : ℕ) → All (IsEdgeWithin n) graph.edges → s < length (half_edges_of graph.edges) → IsWithin n (half_edge_of graph s).from
beginning_within n graph s within below =
    from_within n graph.edges (half_edge_of graph s) within (side_is_half_edge graph.edges s (half_edge_of graph s) (has_number graph s below))
