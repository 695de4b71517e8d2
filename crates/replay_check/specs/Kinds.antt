-- What a move is to the edges of a drawing.
use Rattle.std.specs.Prelude.{◌≡◌, ◌≢◌, false, List, Contains, IsTrue}
use Rattle.nest_base.specs.declared.places.Point.{Point}
use Rattle.nest_base.specs.declared.places.Edge.{Edge}
use Rattle.nest_base.specs.Plane.{RationalPoint, IsOn}
use Rattle.segment_meeting.specs.OnePoint.{IsOnePoint}
use Rattle.plate_sides.specs.HalfEdges.{IsVertex}
use Rattle.half_edges.specs.Numbers.{IsSide}
use Rattle.lead_ins.specs.Corners.{IsOffEdges}
use Rattle.code_moves.specs.declared.moves.Move.{Move}
use Rattle.code_moves.specs.Moves.{way}
use Rattle.sound_code.specs.Sound.{IsLitOffEdges}
use Rattle.replay_check.specs.declared.kinds.Kind.{Kind}
use Rattle.replay_check.specs.declared.kinds.Kind.TheVariants.{Unlit, OnEdge, Along, LeadIn, Blocked, Off}

-- the segments from a to b and from c to d have two points in common
pub record ShareMorePoints (a b c d : Point) : Type 0 where
  pub one : RationalPoint
  pub other : RationalPoint
  pub one_first : IsOn one a b
  pub one_second : IsOn one c d
  pub other_first : IsOn other a b
  pub other_second : IsOn other c d
  pub apart : IsOnePoint one other → ⊥

-- m goes along an edge, but its ends aren't those of one edge
pub record IsAlongEdge (edges : List Edge) (m : Move) : Type 0 where
  pub off_edges : IsLitOffEdges edges m
  pub leads_on : m.from ≢ m.to
  pub edge : Edge
  pub among : Contains edges edge
  pub shares : ShareMorePoints m.from m.to edge.low edge.high

-- m may be a lead-in: it begins a lighting and comes to a vertex, along no edge
pub record MayLeadIn (edges : List Edge) (m : Move) : Type 0 where
  pub off_edges : IsLitOffEdges edges m
  pub not_along : IsAlongEdge edges m → ⊥
  pub fresh : IsTrue m.fresh
  pub leads_on : m.from ≢ m.to
  pub to_vertex : IsVertex edges m.to

-- m is lit and none of these
pub record IsOffDrawing (edges : List Edge) (m : Move) : Type 0 where
  pub off_edges : IsLitOffEdges edges m
  pub not_along : IsAlongEdge edges m → ⊥
  pub no_lead_in : MayLeadIn edges m → ⊥

-- m is of this kind
abbrev pub IsKind : List Edge → Move → Kind → Type 0
IsKind edges m Unlit = m.lit ≡ false
IsKind edges m (OnEdge s) = IsTrue m.lit × IsSide edges s.0 (way m)
IsKind edges m Along = IsAlongEdge edges m
IsKind edges m LeadIn = MayLeadIn edges m × IsOffEdges edges m.to m.from
IsKind edges m Blocked = MayLeadIn edges m × (IsOffEdges edges m.to m.from → ⊥)
IsKind edges m Off = IsOffDrawing edges m
