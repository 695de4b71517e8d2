-- A half-edge at its place in the rotation of the vertex that it leaves.
use Rattle.std.proofs.Common.{arith, ◌≡◌, ℕ, ◌<◌, List, Some, length, slice_get}
use Rattle.std.proofs.lemmas.Option.{slice_get_within}
use Rattle.nest_base.specs.declared.places.Point.{Point}
use Rattle.nest_base.specs.declared.places.Edge.{Edge}
use Rattle.nest_base.specs.Plane.{HalfEdge}
use Rattle.half_edges.specs.Numbers.{half_edges_of, IsSide}
use Rattle.half_edges.specs.Rotations.{IsRotation}
use Rattle.nest_base.proofs.ListReads.{read_below}

pub record IsPlaced (edges : List Edge) (vertices : List Point) (v degree place : ℕ) (h : HalfEdge) : Type 0 where
  pub at : slice_get vertices v ≡ Some h.from
  pub rotation : List HalfEdge
  pub is_rotation : IsRotation edges h.from rotation
  pub long : degree ≡ length rotation
  pub stands : slice_get rotation place ≡ Some h

-- the vertex that a half-edge leaves has a number
pub vertex_within : (edges : List Edge) (vertices : List Point) (v s : ℕ) → ((h : HalfEdge) → IsSide edges s h → slice_get vertices v ≡ Some h.from) →
    s < length (half_edges_of edges) → v < length vertices
vertex_within edges vertices v s leaves below =
    let h = read_below (half_edges_of edges) s below in
    slice_get_within vertices v h.0.from (leaves h.0 h.1)

module _ (edges : List Edge) (vertices : List Point) (v degree place s : ℕ)
    (leaves : (h : HalfEdge) → IsSide edges s h → slice_get vertices v ≡ Some h.from)
    (count : (p : Point) → slice_get vertices v ≡ Some p → (rotation : List HalfEdge) → IsRotation edges p rotation → degree ≡ length rotation)
    (rotations : (p : Point) → slice_get vertices v ≡ Some p → (rotation : List HalfEdge) × IsRotation edges p rotation)
    (position : (h : HalfEdge) → IsSide edges s h → (rotation : List HalfEdge) → IsRotation edges h.from rotation → slice_get rotation place ≡ Some h) where
  pub placed : (h : HalfEdge) → IsSide edges s h → IsPlaced edges vertices v degree place h
  placed h is =
      let at = leaves h is in
      let rotation = rotations h.from at in
      record { at = at; rotation = rotation.0; is_rotation = rotation.1; long = count h.from at rotation.0 rotation.1; stands = position h is rotation.0 rotation.1 }

  pub some_placed : s < length (half_edges_of edges) → (h : HalfEdge) × IsPlaced edges vertices v degree place h
  some_placed below = let h = read_below (half_edges_of edges) s below in (h.0, placed h.0 h.1)

  pub place_below : s < length (half_edges_of edges) → place < degree
  place_below below = let h = some_placed below in omega (arith, h.1.long, slice_get_within h.1.rotation place h.0 h.1.stands)
