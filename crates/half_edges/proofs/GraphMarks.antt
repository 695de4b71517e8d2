-- The mark vertices of a graph, and the components that are named by them.
use Rattle.std.proofs.Common.{◌≡◌, ℕ, Some, slice_get, refl, sym, ap, ◌∙◌}
use Rattle.std.proofs.lemmas.Option.{get_or_from_slice_get}
use Rattle.nest_base.specs.declared.places.Point.{Point}
use Rattle.nest_base.specs.Order.{IsMarkedBefore}
use Rattle.nest_base.proofs.Orders.{IsMarkedBefore-irrefl}
use Rattle.nest_base.proofs.Walks.{Walk-back}
use Rattle.plate_sides.specs.Components.{SameComponent, IsMark}
use Rattle.half_edges.specs.Graph.{Graph, IsGraph, component_of}
use Rattle.nest_base.proofs.ListReads.{Contains-from_read, read_from_Contains}
use Rattle.half_edges.proofs.FirstMarks.{one_mark}
use Rattle.half_edges.proofs.SideNumbers.{one_place}

module _ {graph : Graph} (known : IsGraph graph) where
  pub mark_at : (c : ℕ) (m : Point) → slice_get graph.marks c ≡ Some m → IsMark graph.edges m
  mark_at c m at = (known.are_components.are_marks.are_all m).0 (Contains-from_read graph.marks c m at)

  -- marks of one component stand at one place
  pub one_component : (c d : ℕ) (m n : Point) → slice_get graph.marks c ≡ Some m → slice_get graph.marks d ≡ Some n → SameComponent graph.edges m n → c ≡ d
  one_component c d m n at_c at_d joined =
      let same = one_mark graph.edges m n (mark_at c m at_c) (mark_at d n at_d) joined in
      one_place IsMarkedBefore graph.marks c d m (λ p before. IsMarkedBefore-irrefl p p before refl) known.are_components.are_marks.in_order at_c (at_d ∙ ap Some (sym same))

  -- a mark is a vertex
  pub vertex_of_mark : (c : ℕ) (m : Point) → slice_get graph.marks c ≡ Some m → (v : ℕ) × (slice_get graph.vertices v ≡ Some m)
  vertex_of_mark c m at = read_from_Contains graph.vertices m ((known.layout.are_vertices.are_all m).1 (mark_at c m at).vertex)

  -- of the component that it marks
  pub component_of_mark : (c v : ℕ) (m : Point) → slice_get graph.marks c ≡ Some m → slice_get graph.vertices v ≡ Some m → component_of graph v ≡ c
  component_of_mark c v m at_c at_v =
      let component = known.are_components.leads v m at_v in
      get_or_from_slice_get graph.components v component.0 0 component.2 ∙ one_component component.0 c component.1 m component.3 at_c (Walk-back component.4)
