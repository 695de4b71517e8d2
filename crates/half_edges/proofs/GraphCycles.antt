-- The half-edges of a graph stand in cycles, by number.
use Rattle.std.proofs.Common.{arith, ◌≡◌, ℕ, ◌+◌, ◌<◌, List, Some, length, slice_get, get_or, sym, ap, subst, ◌∙◌}
use Rattle.std.specs.Prelude.{slice_index}
use Rattle.std.proofs.lemmas.Option.{slice_get_within, get_or_from_slice_get, slice_get-get_or}
use Rattle.std.proofs.lemmas.List.{get_or_default}
use Rattle.nest_base.specs.declared.places.Point.{Point}
use Rattle.nest_base.specs.Plane.{HalfEdge}
use Rattle.half_edges.specs.Numbers.{half_edges_of, IsSide}
use Rattle.half_edges.specs.Rotations.{IsBeforeRound, IsRotation}
use Rattle.half_edges.specs.Graph.{Graph, IsGraph, origin_of, place_of, degree_of, side_in}
use Rattle.nest_base.proofs.ListReads.{read_below, one_read, Contains-from_read}
use Rattle.half_edges.proofs.Neighbours.{one_number as vertex_number}
use Rattle.half_edges.proofs.Rounds.{IsBeforeFromWest-asym, one_rotation}
use Rattle.half_edges.proofs.GraphReads.{rotation_of, block_long, place_within, side_in_rotation, first_in_rotation, position_within, position_read}
use Rattle.half_edges.proofs.Cycles.{InCycles}
use Rattle.half_edges.proofs.SideNumbers.{one_place, one_number}

module _ {graph : Graph} (known : IsGraph graph) where
  -- a vertex has one number
  pub one_vertex : (u v : ℕ) (p : Point) → slice_get graph.vertices u ≡ Some p → slice_get graph.vertices v ≡ Some p → u ≡ v
  one_vertex u v p at_u at_v = vertex_number graph.edges graph.vertices u v p known.layout.are_vertices at_u at_v

  -- the vertex that a half-edge leaves has the number that is told
  pub origin_is : (s v : ℕ) (h : HalfEdge) → IsSide graph.edges s h → slice_get graph.vertices v ≡ Some h.from → origin_of graph s ≡ v
  origin_is s v h is at =
      let vertex = known.layout.leaves s h is in
      get_or_from_slice_get graph.origins s vertex.0 0 vertex.1 ∙ one_vertex vertex.0 v h.from vertex.2 at

  -- the first half-edge of a vertex leaves it
  pub first_leaves : (v first s : ℕ) (p : Point) → slice_get graph.vertices v ≡ Some p → first ≡ get_or graph.starts v first → slice_get graph.all first ≡ Some s →
      (s < length (half_edges_of graph.edges)) × (origin_of graph s ≡ v)
  first_leaves v first s p at is_first at_s =
      let rotation = rotation_of known v p at in
      let h = first_in_rotation known v first s p at is_first at_s rotation.0 rotation.1 in
      let from = ((rotation.1.are_all h.0).0 (Contains-from_read rotation.0 0 h.0 h.1)).1 in
      (slice_get_within (half_edges_of graph.edges) s h.0 h.2, origin_is s v h.0 h.2 (at ∙ ap Some (sym from)))

  -- what stands at a place of the lists of a graph
  pub record IsRead (s : ℕ) : Type 0 where
    pub half : HalfEdge
    pub is_side : IsSide graph.edges s half
    pub from : slice_get graph.vertices (origin_of graph s) ≡ Some half.from
    pub rotation : List HalfEdge
    pub is_rotation : IsRotation graph.edges half.from rotation
    pub long : degree_of graph (origin_of graph s) ≡ length rotation
    pub stands : slice_get rotation (place_of graph s) ≡ Some half

  starts_read : (v : ℕ) → v < length graph.vertices + 1 → slice_index graph.starts v ≡ get_or graph.starts v (slice_index graph.starts v)
  starts_read v below = get_or_default graph.starts v 0 (slice_index graph.starts v) (omega (arith, below, known.layout.one_more))

  pub read : (s : ℕ) → s < length (half_edges_of graph.edges) → IsRead s
  read s below =
      let h = read_below (half_edges_of graph.edges) s below in
      let vertex = known.layout.leaves s h.0 h.1 in
      let number : vertex.0 ≡ origin_of graph s = sym (get_or_from_slice_get graph.origins s vertex.0 0 vertex.1) in
      let from = subst (λ v. slice_get graph.vertices v ≡ Some h.0.from) number vertex.2 in
      let v = origin_of graph s in
      let within = slice_get_within graph.vertices v h.0.from from in
      let rotation = rotation_of known v h.0.from from in
      let long = block_long known v (slice_index graph.starts v) (slice_index graph.starts (v + 1)) h.0.from from
      (starts_read v (omega (arith, within))) (starts_read (v + 1) (omega (arith, within))) rotation.0 rotation.1 in
      let place = get_or_default graph.positions s 0 (place_of graph s) (position_within known s below) in
      record {
        half = h.0;
        is_side = h.1;
        from = from;
        rotation = rotation.0;
        is_rotation = rotation.1;
        long = omega (arith, long);
        stands = position_read known s (place_of graph s) place h.0 h.1 rotation.0 rotation.1;
      }

  pub origin_within : (s : ℕ) → s < length (half_edges_of graph.edges) → origin_of graph s < length graph.vertices
  origin_within s below = let at = read s below in slice_get_within graph.vertices (origin_of graph s) at.half.from at.from

  -- the half-edge at a place of the rotation has the number that stands there
  pub side_there : (s : ℕ) (at : IsRead s) (k : ℕ) (x : HalfEdge) → slice_get at.rotation k ≡ Some x → IsSide graph.edges (side_in graph (origin_of graph s) k) x
  side_there s at k x stands =
      let v = origin_of graph s in
      let first = slice_index graph.starts v in
      let is_first = starts_read v (omega (arith, slice_get_within graph.vertices v at.half.from at.from)) in
      let inside = slice_get_within at.rotation k x stands in
      let within = place_within known v first k at.half.from at.from is_first
      (λ other is_other. omega (arith, inside, ap (λ (xs : List HalfEdge). length xs) (one_rotation graph.edges at.half.from at.rotation other at.is_rotation is_other))) in
      let side = side_in_rotation known v first k (side_in graph v k) at.half.from at.from is_first (slice_get-get_or graph.all (first + k) 0 within) at.rotation at.is_rotation inside in
      subst (IsSide graph.edges (side_in graph v k)) (one_read at.rotation k side.0 x side.1 stands) side.2

  -- a half-edge of the rotation in which s stands
  record IsMember (s : ℕ) (at : IsRead s) (k : ℕ) : Type 0 where
    other : HalfEdge
    stands_at : slice_get at.rotation k ≡ Some other
    has_number : IsSide graph.edges (side_in graph (origin_of graph s) k) other
    same_from : other.from ≡ at.half.from

  member : (s : ℕ) (at : IsRead s) (k : ℕ) → k < degree_of graph (origin_of graph s) → IsMember s at k
  member s at k below =
      let x = read_below at.rotation k (omega (arith, below, at.long)) in
      record { other = x.0; stands_at = x.1; has_number = side_there s at k x.0 x.1; same_from = ((at.is_rotation.are_all x.0).0 (Contains-from_read at.rotation k x.0 x.1)).1 }

  member_within : (s : ℕ) (at : IsRead s) (k : ℕ) → k < degree_of graph (origin_of graph s) → side_in graph (origin_of graph s) k < length (half_edges_of graph.edges)
  member_within s at k below =
      let x = member s at k below in
      slice_get_within (half_edges_of graph.edges) (side_in graph (origin_of graph s) k) x.other x.has_number

  member_origin : (s : ℕ) (at : IsRead s) (k : ℕ) → k < degree_of graph (origin_of graph s) → origin_of graph (side_in graph (origin_of graph s) k) ≡ origin_of graph s
  member_origin s at k below =
      let x = member s at k below in
      let t = side_in graph (origin_of graph s) k in
      let also = read t (member_within s at k below) in
      let half = one_read (half_edges_of graph.edges) t also.half x.other also.is_side x.has_number in
      one_vertex (origin_of graph t) (origin_of graph s) at.half.from (also.from ∙ ap (λ (h : HalfEdge). Some h.from) half ∙ ap Some x.same_from) at.from

  member_place : (s : ℕ) (at : IsRead s) (k : ℕ) → k < degree_of graph (origin_of graph s) → place_of graph (side_in graph (origin_of graph s) k) ≡ k
  member_place s at k below =
      let x = member s at k below in
      let t = side_in graph (origin_of graph s) k in
      let place = get_or_default graph.positions t 0 (place_of graph t) (position_within known t (member_within s at k below)) in
      let stands = position_read known t (place_of graph t) place x.other x.has_number at.rotation (subst (λ p. IsRotation graph.edges p at.rotation) (sym x.same_from) at.is_rotation) in
      one_place IsBeforeRound at.rotation (place_of graph t) k x.other (λ h before. IsBeforeFromWest-asym _ _ before before) at.is_rotation.in_order stands x.stands_at

  pub half_edges_in_cycles : InCycles (length (half_edges_of graph.edges)) (origin_of graph) (place_of graph) (degree_of graph) (side_in graph)
  half_edges_in_cycles = record {
    place_below = λ s below. let at = read s below in omega (arith, at.long, slice_get_within at.rotation (place_of graph s) at.half at.stands);
    is_member = λ s below. let at = read s below in one_number graph.edges known.ends_in_order known.each_once _ s at.half (side_there s at (place_of graph s) at.half at.stands) at.is_side;
    member_below = λ s k below. member_within s (read s below) k;
    same_origin = λ s k below. member_origin s (read s below) k;
    its_place = λ s k below. member_place s (read s below) k;
  }
