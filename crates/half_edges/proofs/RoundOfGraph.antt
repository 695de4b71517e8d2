-- Round each vertex of a graph the half-edges are one cycle, and each belongs to a component with a mark vertex.
use Rattle.std.proofs.Common.{arith, ◌≡◌, ℕ, zero, suc, inl, List, Some, slice_get, refl, sym, subst}
use Rattle.std.proofs.lemmas.Option.{slice_get_within}
use Rattle.nest_base.specs.declared.places.Point.{Point}
use Rattle.nest_base.specs.declared.places.Edge.{Edge}
use Rattle.nest_base.specs.Plane.{HalfEdge}
use Rattle.nest_base.specs.Walks.{Walk, here, on}
use Rattle.nest_base.proofs.Walks.{Walk-then, Walk-back}
use Rattle.plate_sides.specs.HalfEdges.{IsHalfEdge, Leaves, IsNextCcw}
use Rattle.plate_sides.specs.Components.{IsMark, IsIn}
use Rattle.plate_sides.specs.Nesting.{IsRound}
use Rattle.half_edges.specs.Rotations.{IsRotation}
use Rattle.half_edges.specs.Graph.{Graph, IsGraph}
use Rattle.nest_base.proofs.ListReads.{read_below, one_read, read_from_Contains}
use Rattle.half_edges.proofs.Numbers.{side_from_half_edge}
use Rattle.half_edges.proofs.NextRound.{AreOrdered, next_in_rotation}
use Rattle.half_edges.proofs.GraphReads.{rotation_of}
use Rattle.half_edges.proofs.GraphMarks.{mark_at}

module _ (edges : List Edge) (ordered : AreOrdered edges) (v : Point) (rotation : List HalfEdge) (is_rotation : IsRotation edges v rotation) where
  -- from the first of a rotation on each is met
  from_first : (first : HalfEdge) → slice_get rotation 0 ≡ Some first → (k : ℕ) (h : HalfEdge) → slice_get rotation k ≡ Some h → Walk (IsNextCcw edges) h first
  from_first first at_first zero h at = subst (λ (g : HalfEdge). Walk (IsNextCcw edges) g first) (one_read rotation 0 first h at_first at) here
  from_first first at_first (suc k) h at =
      let g = read_below rotation k (omega (arith, slice_get_within rotation (suc k) h at)) in
      Walk-then (from_first first at_first k g.0 g.1) (on (next_in_rotation edges ordered v rotation is_rotation k (suc k) g.0 h g.1 at (inl (omega arith))) here)

  -- so from each one to each other
  all_round : (r s : HalfEdge) → Leaves edges v r → Leaves edges v s → Walk (IsNextCcw edges) s r
  all_round r s leaves also =
      let i = read_from_Contains rotation r ((is_rotation.are_all r).1 leaves) in
      let j = read_from_Contains rotation s ((is_rotation.are_all s).1 also) in
      let first = read_below rotation 0 (omega (arith, slice_get_within rotation i.0 r i.1)) in
      Walk-then (Walk-back (from_first first.0 first.1 i.0 r i.1)) (from_first first.0 first.1 j.0 s j.1)

module _ (graph : Graph) (known : IsGraph graph) where
  -- the number of the vertex that a half-edge leaves
  left : (h : HalfEdge) → IsHalfEdge graph.edges h → (v : ℕ) × (slice_get graph.vertices v ≡ Some h.from)
  left h is =
      let side = side_from_half_edge graph.edges h is in
      let vertex = known.layout.leaves side.0 h side.1 in
      (vertex.0, vertex.2)

  turned : (r s : HalfEdge) → IsHalfEdge graph.edges r → IsHalfEdge graph.edges s → r.from ≡ s.from → Walk (IsNextCcw graph.edges) s r
  turned r s is also same =
      let v = left r is in
      let rotation = rotation_of known v.0 r.from v.1 in
      all_round graph.edges known.ends_in_order r.from rotation.0 rotation.1 r s (is, refl) (also, sym same)

  marked : (s : HalfEdge) → IsHalfEdge graph.edges s → (mark : Point) × IsMark graph.edges mark × IsIn graph.edges mark s
  marked s is =
      let v = left s is in
      let component = known.are_components.leads v.0 s.from v.1 in
      (component.1, mark_at known component.0 component.1 component.3, (is, component.4))

  pub round_of_graph : IsRound graph.edges
  round_of_graph = record { turn = turned; marked = marked }
