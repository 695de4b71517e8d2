-- What the lists of a graph say of a half-edge, and of a vertex, by number.
use Rattle.std.proofs.Common.{arith, ◌≡◌, ℕ, ◌+◌, ◌*◌, ◌<◌, ◌≤◌, List, Some, length, slice_get, get_or, refl, ap, subst, ◌∙◌}
use Rattle.std.proofs.lemmas.Option.{slice_get_within, slice_get_read, get_or_from_slice_get}
use Rattle.nest_base.specs.declared.places.Point.{Point}
use Rattle.nest_base.specs.Plane.{HalfEdge}
use Rattle.nest_base.specs.Limits.{most_half_edges}
use Rattle.plate_sides.specs.HalfEdges.{IsVertex}
use Rattle.half_edges.specs.Numbers.{half_edges_of, IsSide}
use Rattle.half_edges.specs.Rotations.{IsRotation}
use Rattle.half_edges.specs.Layouts.{IsRotationAt}
use Rattle.half_edges.specs.Graph.{Graph, IsGraph, component_of}
use Rattle.nest_base.proofs.ListReads.{read_below, one_read, Contains-from_read}
use Rattle.half_edges.proofs.Numbers.{length-half_edges}
use Rattle.half_edges.proofs.GraphSizes.{length-vertices-le, length-marks-le}
use Rattle.half_edges.proofs.NextRound.{some_in_rotation}
use Rattle.half_edges.proofs.Rounds.{one_rotation}

module _ {graph : Graph} (known : IsGraph graph) where
  -- how many there are at most
  pub length-origins : length graph.origins ≡ 2 * length graph.edges
  length-origins = known.layout.as_many ∙ length-half_edges graph.edges

  pub few_sides : 2 * length graph.edges ≤ most_half_edges
  few_sides = omega (arith, known.few)

  pub few_vertices : length graph.vertices ≤ most_half_edges
  few_vertices = omega (arith, known.few, length-vertices-le graph.edges graph.vertices known.layout.are_vertices)

  pub few_marks : length graph.marks ≤ most_half_edges
  few_marks = omega (arith, few_vertices, length-marks-le graph.edges graph.vertices graph.marks known.layout.are_vertices known.are_components.are_marks)

  -- what was read at v and after it is where the rotation of the vertex v begins and ends
  pub block : (v first behind : ℕ) (p : Point) → slice_get graph.vertices v ≡ Some p → first ≡ get_or graph.starts v first → behind ≡ get_or graph.starts (v + 1) behind →
      IsRotationAt graph.edges p graph.all first behind
  block v first behind p at is_first is_behind =
      let below = slice_get_within graph.vertices v p at in
      let long = known.layout.one_more in
      known.layout.rotations v first behind p at
      (slice_get_read graph.starts (length graph.starts) v first refl (omega (arith, below, long)) is_first)
      (slice_get_read graph.starts (length graph.starts) (v + 1) behind refl (omega (arith, below, long)) is_behind)

  -- each vertex has a rotation
  pub rotation_of : (v : ℕ) (p : Point) → slice_get graph.vertices v ≡ Some p → (rotation : List HalfEdge) × IsRotation graph.edges p rotation
  rotation_of v p at =
      let below = slice_get_within graph.vertices v p at in
      let long = known.layout.one_more in
      let first = read_below graph.starts v (omega (arith, below, long)) in
      let behind = read_below graph.starts (v + 1) (omega (arith, below, long)) in
      let found = known.layout.rotations v first.0 behind.0 p at first.1 behind.1 in
      (found.rotation, found.is_rotation)

  pub vertex_at_number : (v : ℕ) → v < length graph.vertices → (p : Point) × (slice_get graph.vertices v ≡ Some p)
  vertex_at_number v below = read_below graph.vertices v below

  -- where the rotation begins and ends tells how long it is
  pub block_long : (v first behind : ℕ) (p : Point) → slice_get graph.vertices v ≡ Some p → first ≡ get_or graph.starts v first → behind ≡ get_or graph.starts (v + 1) behind →
      (rotation : List HalfEdge) → IsRotation graph.edges p rotation → behind ≡ first + length rotation
  block_long v first behind p at is_first is_behind rotation is_rotation =
      let found = block v first behind p at is_first is_behind in
      let same = ap (λ (xs : List HalfEdge). length xs) (one_rotation graph.edges p found.rotation rotation found.is_rotation is_rotation) in
      omega (arith, found.long, same)

  pub first_within : (v first behind : ℕ) (p : Point) → slice_get graph.vertices v ≡ Some p → first ≡ get_or graph.starts v first → behind ≡ get_or graph.starts (v + 1) behind → first ≤ behind
  first_within v first behind p at is_first is_behind = omega (arith, (block v first behind p at is_first is_behind).long)

  -- the rotation of the vertex v, as it stands from its first place on
  stands_from : (v first : ℕ) (p : Point) → slice_get graph.vertices v ≡ Some p → first ≡ get_or graph.starts v first → (behind : ℕ) × IsRotationAt graph.edges p graph.all first behind
  stands_from v first p at is_first =
      let below = slice_get_within graph.vertices v p at in
      let long = known.layout.one_more in
      let behind = read_below graph.starts (v + 1) (omega (arith, below, long)) in
      (behind.0, known.layout.rotations v first behind.0 p at (slice_get_read graph.starts (length graph.starts) v first refl (omega (arith, below, long)) is_first) behind.1)

  -- a place of the rotation is a place among all half-edges
  pub place_within : (v first k : ℕ) (p : Point) → slice_get graph.vertices v ≡ Some p → first ≡ get_or graph.starts v first →
      ((rotation : List HalfEdge) → IsRotation graph.edges p rotation → k < length rotation) → first + k < length graph.all
  place_within v first k p at is_first inside =
      let found = (stands_from v first p at is_first).1 in
      omega (arith, found.long, found.within, inside found.rotation found.is_rotation)

  -- and its half-edge stands there
  pub side_in_rotation : (v first k s : ℕ) (p : Point) → slice_get graph.vertices v ≡ Some p → first ≡ get_or graph.starts v first → slice_get graph.all (first + k) ≡ Some s →
      (rotation : List HalfEdge) → IsRotation graph.edges p rotation → k < length rotation → (h : HalfEdge) × (slice_get rotation k ≡ Some h) × IsSide graph.edges s h
  side_in_rotation v first k s p at is_first at_s rotation is_rotation inside =
      let found = (stands_from v first p at is_first).1 in
      let same = one_rotation graph.edges p found.rotation rotation found.is_rotation is_rotation in
      let h = read_below rotation k inside in
      let side = found.stands k h.0 (ap (λ (xs : List HalfEdge). slice_get xs k) same ∙ h.1) in
      (h.0, h.1, subst (λ n. IsSide graph.edges n h.0) (one_read graph.all (first + k) side.0 s side.1 at_s) side.2)

  -- the vertex that a half-edge leaves has a rotation, and the half-edge its place there
  position_of : (s : ℕ) (h : HalfEdge) → IsSide graph.edges s h → (rotation : List HalfEdge) → IsRotation graph.edges h.from rotation →
      (k : ℕ) × (slice_get graph.positions s ≡ Some k) × (slice_get rotation k ≡ Some h)
  position_of s h is rotation is_rotation = known.are_positions s h is rotation is_rotation

  pub position_within : (s : ℕ) → s < length (half_edges_of graph.edges) → s < length graph.positions
  position_within s below =
      let h = read_below (half_edges_of graph.edges) s below in
      let vertex = known.layout.leaves s h.0 h.1 in
      let rotation = rotation_of vertex.0 h.0.from vertex.2 in
      let place = position_of s h.0 h.1 rotation.0 rotation.1 in
      slice_get_within graph.positions s place.0 place.1

  pub position_read : (s k : ℕ) → k ≡ get_or graph.positions s k → (h : HalfEdge) → IsSide graph.edges s h → (rotation : List HalfEdge) → IsRotation graph.edges h.from rotation →
      slice_get rotation k ≡ Some h
  position_read s k is_k h is rotation is_rotation =
      let place = position_of s h is rotation is_rotation in
      let read = slice_get_read graph.positions (length graph.positions) s k refl (slice_get_within graph.positions s place.0 place.1) is_k in
      subst (λ n. slice_get rotation n ≡ Some h) (one_read graph.positions s place.0 k place.1 read) place.2

  -- a vertex is left by some half-edge
  pub is_vertex : (v : ℕ) (p : Point) → slice_get graph.vertices v ≡ Some p → IsVertex graph.edges p
  is_vertex v p at = (known.layout.are_vertices.are_all p).0 (Contains-from_read graph.vertices v p at)

  not_empty : (v : ℕ) (p : Point) → slice_get graph.vertices v ≡ Some p → (rotation : List HalfEdge) → IsRotation graph.edges p rotation → 0 < length rotation
  not_empty v p at rotation is_rotation = some_in_rotation graph.edges known.ends_in_order p rotation is_rotation (is_vertex v p at)

  -- the first place of a rotation
  pub first_place_within : (v first : ℕ) (p : Point) → slice_get graph.vertices v ≡ Some p → first ≡ get_or graph.starts v first → first < length graph.all
  first_place_within v first p at is_first = omega (arith, place_within v first 0 p at is_first (not_empty v p at))

  pub first_in_rotation : (v first s : ℕ) (p : Point) → slice_get graph.vertices v ≡ Some p → first ≡ get_or graph.starts v first → slice_get graph.all first ≡ Some s →
      (rotation : List HalfEdge) → IsRotation graph.edges p rotation → (h : HalfEdge) × (slice_get rotation 0 ≡ Some h) × IsSide graph.edges s h
  first_in_rotation v first s p at is_first at_s rotation is_rotation =
      let same : first ≡ first + 0 = omega arith in
      side_in_rotation v first 0 s p at is_first (subst (λ n. slice_get graph.all n ≡ Some s) same at_s) rotation is_rotation (not_empty v p at rotation is_rotation)

  -- the component of a vertex is one of those that there are
  pub component_within : (v : ℕ) (p : Point) → slice_get graph.vertices v ≡ Some p → component_of graph v < length graph.marks
  component_within v p at =
      let component = known.are_components.leads v p at in
      omega (arith, slice_get_within graph.marks component.0 component.1 component.3, get_or_from_slice_get graph.components v component.0 0 component.2)
