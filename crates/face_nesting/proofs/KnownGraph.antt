-- What a plane graph says of numbers: of half-edges, of components.
use Rattle.std.proofs.Common.{arith, ◌≡◌, ℕ, ◌<◌, ◌≤◌, length, refl, sym, ap, subst, ◌∙◌}
use Rattle.std.specs.Prelude.{Some, slice_get}
use Rattle.nest_base.specs.declared.places.Point.{Point}
use Rattle.nest_base.specs.Plane.{HalfEdge}
use Rattle.nest_base.specs.Order.{IsMarkedBefore}
use Rattle.nest_base.specs.Limits.{most_half_edges}
use Rattle.nest_base.proofs.Orders.{IsMarkedBefore-irrefl}
use Rattle.plate_sides.specs.Components.{IsMark, IsIn}
use Rattle.plate_sides.specs.Links.{IsAlong}
use Rattle.plate_nesting.proofs.Alongs.{along_is_one}
use Rattle.plate_nesting.proofs.Marks.{one_mark}
use Rattle.half_edges.specs.Numbers.{half_edges_of, IsSide}
use Rattle.rotation_systems.specs.RotationSystem.{along}
use Rattle.half_edges.specs.PlaneGraphs.{IsPlaneGraph}
use Rattle.half_edges.specs.Graph.{Graph, rotations_of, origin_of, component_of}
use Rattle.nest_base.proofs.ListReads.{read_below, one_read, Contains-from_read, read_from_Contains}
use Rattle.half_edges.proofs.Numbers.{length-half_edges}
use Rattle.half_edges.proofs.SideNumbers.{one_place, one_number as side_number}

module _ {graph : Graph} (known : IsPlaneGraph graph) where
  pub few_sides : length (half_edges_of graph.edges) ≤ most_half_edges
  few_sides = omega (arith, known.few, length-half_edges graph.edges)

  -- a half-edge has one number
  pub one_number : (s t : ℕ) (h : HalfEdge) → IsSide graph.edges s h → IsSide graph.edges t h → s ≡ t
  one_number = side_number graph.edges known.ends_in_order known.each_once

  -- half-edges that go along to one another on the plate do so by number
  pub along_number : (s : ℕ) (g h : HalfEdge) → IsSide graph.edges s g → IsAlong graph.edges g h → IsSide graph.edges (along (rotations_of graph) s) h
  along_number s g h is_g link =
      let next = known.goes_along s g is_g in
      let same = along_is_one graph.edges known.ends_in_order known.apart g next.0 h next.2 link in
      subst (IsSide graph.edges (along (rotations_of graph) s)) same next.1

  -- and the other way
  pub along_on_plate : (s : ℕ) (g h : HalfEdge) → IsSide graph.edges s g → IsSide graph.edges (along (rotations_of graph) s) h → IsAlong graph.edges g h
  along_on_plate s g h is_g is_h =
      let next = known.goes_along s g is_g in
      subst (IsAlong graph.edges g) (one_read (half_edges_of graph.edges) (along (rotations_of graph) s) next.0 h next.1 is_h) next.2

  pub half_below : (s : ℕ) → s < length (half_edges_of graph.edges) → (h : HalfEdge) × IsSide graph.edges s h
  half_below s below = read_below (half_edges_of graph.edges) s below

  pub is_mark_at : (c : ℕ) (mark : Point) → slice_get graph.marks c ≡ Some mark → IsMark graph.edges mark
  is_mark_at c mark at = (known.are_marks.are_all mark).0 (Contains-from_read graph.marks c mark at)

  pub mark_number : (mark : Point) → IsMark graph.edges mark → (c : ℕ) × (slice_get graph.marks c ≡ Some mark)
  mark_number mark is = read_from_Contains graph.marks mark ((known.are_marks.are_all mark).1 is)

  -- a mark vertex has one number
  pub one_mark_number : (c d : ℕ) (mark : Point) → slice_get graph.marks c ≡ Some mark → slice_get graph.marks d ≡ Some mark → c ≡ d
  one_mark_number c d mark at_c at_d = one_place IsMarkedBefore graph.marks c d mark (λ p before. IsMarkedBefore-irrefl p p before refl) known.are_marks.in_order at_c at_d

  -- the component of a half-edge by number is the one in which it lies
  pub component_is : (s c : ℕ) (h : HalfEdge) (mark : Point) → IsSide graph.edges s h → slice_get graph.marks c ≡ Some mark → IsIn graph.edges mark h → component_of graph (origin_of graph s) ≡ c
  component_is s c h mark is at inside =
      let component = known.components s h is in
      let d = component_of graph (origin_of graph s) in
      let one = one_mark graph.edges component.0 mark h (is_mark_at d component.0 component.1) (is_mark_at c mark at) component.2 inside in
      one_mark_number d c mark (component.1 ∙ ap Some one) at

  pub lies_in : (s c : ℕ) (h : HalfEdge) (mark : Point) → IsSide graph.edges s h → slice_get graph.marks c ≡ Some mark → component_of graph (origin_of graph s) ≡ c → IsIn graph.edges mark h
  lies_in s c h mark is at number =
      let component = known.components s h is in
      subst (λ m. IsIn graph.edges m h) (one_read graph.marks c component.0 mark (ap (slice_get graph.marks) (sym number) ∙ component.1) at) component.2

  pub along_below : (s : ℕ) → s < length (half_edges_of graph.edges) → along (rotations_of graph) s < length (half_edges_of graph.edges)
  along_below s below = known.rotation.cw_in ((rotations_of graph).twin s) (known.rotation.twin_in s below)

  -- half-edges go along within their components
  pub component_along : (s : ℕ) → s < length (half_edges_of graph.edges) → component_of graph (origin_of graph (along (rotations_of graph) s)) ≡ component_of graph (origin_of graph s)
  component_along s below = ap (component_of graph) (known.rotation.cw_from ((rotations_of graph).twin s) (known.rotation.twin_in s below)) ∙ known.divides s below
