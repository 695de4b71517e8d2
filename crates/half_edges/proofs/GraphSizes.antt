-- How many half-edges, vertices and components a graph has at most.
use Rattle.std.proofs.Common.{arith, ◌≢◌, ◌≤◌, ◌*◌, List, length, map, subst}
use Rattle.std.specs.Prelude.{Contains, AllPairs}
use Rattle.std.proofs.lemmas.List.{length-map}
use Rattle.nest_base.specs.declared.places.Point.{Point}
use Rattle.nest_base.specs.declared.places.Edge.{Edge}
use Rattle.nest_base.specs.Plane.{HalfEdge}
use Rattle.nest_base.specs.Order.{IsMarkedBefore}
use Rattle.plate_edges.proofs.Lists.{Contains-map}
use Rattle.plate_sides.specs.HalfEdges.{IsVertex}
use Rattle.plate_sides.specs.Components.{AreMarks}
use Rattle.half_edges.specs.Numbers.{half_edges_of}
use Rattle.half_edges.specs.Layouts.{AreVertices}
use Rattle.nest_base.proofs.Orders.{IsMarkedBefore-irrefl}
use Rattle.nest_base.proofs.ListReads.{Contains-from_read}
use Rattle.half_edges.proofs.Numbers.{length-half_edges, side_from_half_edge}
use Rattle.nest_base.proofs.Fewer.{fewer}

-- places in the order of mark vertices differ
marked_apart : (places : List Point) → AllPairs IsMarkedBefore places → AllPairs (λ p q. p ≢ q) places
marked_apart places h i j d less within = IsMarkedBefore-irrefl _ _ (h i j d less within)

-- each vertex is left by some half-edge
vertex_is_left : (edges : List Edge) (p : Point) → IsVertex edges p → Contains (map (λ (h : HalfEdge). h.from) (half_edges_of edges)) p
vertex_is_left edges p (h, (is, at)) =
    let side = side_from_half_edge edges h is in
    let from : HalfEdge → Point = λ h. h.from in
    subst (Contains (map from (half_edges_of edges))) at (Contains-map from (half_edges_of edges) h (Contains-from_read (half_edges_of edges) side.0 h side.1))

pub length-vertices-le : (edges : List Edge) (vertices : List Point) → AreVertices edges vertices → length vertices ≤ 2 * length edges
length-vertices-le edges vertices are =
    let from : HalfEdge → Point = λ h. h.from in
    let few = fewer vertices (map from (half_edges_of edges)) (marked_apart vertices are.in_order) (λ p c. vertex_is_left edges p ((are.are_all p).0 c)) in
    omega (arith, few, length-map (half_edges_of edges) from, length-half_edges edges)

-- each mark is a vertex
pub length-marks-le : (edges : List Edge) (vertices marks : List Point) → AreVertices edges vertices → AreMarks edges marks → length marks ≤ length vertices
length-marks-le edges vertices marks are are_marks =
    fewer marks vertices (marked_apart marks are_marks.in_order) (λ p c. (are.are_all p).1 ((are_marks.are_all p).0 c).vertex)
