-- The vertices of edges, and of their components.
use Rattle.std.proofs.Common.{◌≡◌, ◌⊎◌, inl, inr, List, refl, sym}
use Rattle.std.specs.Prelude.{Contains}
use Rattle.nest_base.specs.declared.places.Point.{Point}
use Rattle.nest_base.specs.declared.places.Edge.{Edge}
use Rattle.nest_base.specs.Walks.{here, on, against}
use Rattle.plate_sides.specs.HalfEdges.{IsVertex}
use Rattle.plate_sides.specs.Components.{SameComponent}
use Rattle.plate_sides.proofs.HalfEdges.{twin_is_half_edge}

-- what edges join to a vertex is a vertex
pub joined_is_vertex : (edges : List Edge) {mark v : Point} → IsVertex edges mark → SameComponent edges v mark → IsVertex edges v
joined_is_vertex edges vertex here = vertex
joined_is_vertex edges {v} vertex (on {b} l w) = (record { from = v; to = b }, (l, refl))
joined_is_vertex edges {v} vertex (against {b} l w) = (record { from = v; to = b }, (twin_is_half_edge edges (record { from = b; to = v }) l, refl))
