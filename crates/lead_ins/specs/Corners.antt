-- The corners of a half-edge, and lead-ins that keep clear of all else there.
use Rattle.std.specs.Prelude.{◌≡◌, ◌≢◌, ◌<◌, ℕ, List, Option, Some, None, Contains, length, slice_get, slice_index}
use Rattle.nest_base.specs.declared.places.Point.{Point}
use Rattle.nest_base.specs.declared.places.Edge.{Edge}
use Rattle.nest_base.specs.Plane.{HalfEdge, direction, heading}
use Rattle.nest_base.specs.Range.{IsWithin, widest}
use Rattle.nest_base.specs.Turn.{IsInsideAngle}
use Rattle.nest_base.specs.Angles.{IsDirection}
use Rattle.plate_sides.specs.Links.{At}
use Rattle.half_edges.specs.Numbers.{half_edges_of}
use Rattle.half_edges.specs.Graph.{Graph}
use Rattle.cover_plan.specs.Trails.{half_edge_of}
use Rattle.plate_parts.specs.declared.leads.Lead.{Lead}
use Rattle.plate_parts.specs.LeadIns.{Hand, IsCorner, TouchesAtMostAt}
use Rattle.plate_parts.specs.Parts.{IsScrap}
use Rattle.lead_ins.specs.declared.corners.Corner.{Corner}

-- both ends of a lead-in lie within plus and minus n
pub record IsLeadWithin (n : ℕ) (l : Lead) : Type 0 where
  pub from : IsWithin n l.from
  pub to : IsWithin n l.to

-- a corner is told by its vertex, its two directions and the half-edge a to whose face it belongs
pub record IsCornerBetween (graph : Graph) (corner : Corner) (b : HalfEdge) : Type 0 where
  pub within : corner.side.0 < length (half_edges_of graph.edges)
  pub vertex : corner.vertex ≡ (half_edge_of graph corner.side.0).from
  pub first : corner.first ≡ heading (half_edge_of graph corner.side.0)
  pub last : corner.last ≡ heading b
  pub first_leads : IsDirection corner.first
  pub last_leads : IsDirection corner.last
  pub vertex_within : IsWithin widest corner.vertex

-- it is the corner of the half-edge with the number s on this hand, of which there is one
pub record IsCornerOf (graph : Graph) (s : ℕ) (hand : Hand) (corner : Corner) : Type 0 where
  pub b : HalfEdge
  pub between : IsCornerBetween graph corner b
  pub is_corner : IsCorner graph.edges (half_edge_of graph s) hand (half_edge_of graph corner.side.0) b
  pub alone : (c d : HalfEdge) → IsCorner graph.edges (half_edge_of graph s) hand c d → (c ≡ half_edge_of graph corner.side.0) × (d ≡ b)

-- the cut from q to v touches no edge but at v
abbrev pub IsOffEdges : List Edge → Point → Point → Type 0
IsOffEdges edges v q = (e : Edge) → Contains edges e → TouchesAtMostAt v q e.low e.high

-- and no other lead-in
abbrev pub IsOffLeads : List Lead → Point → Point → Type 0
IsOffLeads leads v q = (l : Lead) → Contains leads l → TouchesAtMostAt v q l.from l.to

-- the cut from q to the vertex of the corner comes to it from within the corner
pub record ComesFromWithin (corner : Corner) (q : Point) : Type 0 where
  pub apart : q ≢ corner.vertex
  pub in_corner : IsInsideAngle corner.first (direction corner.vertex q) corner.last

-- a lead-in from q to the vertex of the corner fits it, whatever face it lies in
pub record IsClear (edges : List Edge) (earlier : List Lead) (corner : Corner) (q : Point) : Type 0 where
  pub from_within : ComesFromWithin corner q
  pub off_edges : IsOffEdges edges corner.vertex q
  pub off_earlier : IsOffLeads earlier corner.vertex q

-- and this is scrap
abbrev pub FitsCorner : Graph → List Point → List Lead → Corner → Point → Type 0
FitsCorner graph places earlier corner q =
    IsClear graph.edges earlier corner q × IsScrap graph.edges places (At (half_edge_of graph corner.side.0))

-- what remains of this for a cut that touches no edge but at the vertex, where it's told by number of a face which are scrap
pub record FitsOffEdges (faces : List ℕ) (names : List (Option ℕ)) (earlier : List Lead) (corner : Corner) (q : Point) : Type 0 where
  pub in_scrap : slice_get names (slice_index faces corner.side.0) ≡ Some None
  pub from_within : ComesFromWithin corner q
  pub off_earlier : IsOffLeads earlier corner.vertex q
