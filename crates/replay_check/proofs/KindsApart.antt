-- A move has one kind alone.
use Rattle.std.proofs.Common.{◌≡◌, List, refl}
use Rattle.std.proofs.lemmas.Bool.{both_ways}
use Rattle.nest_base.specs.declared.places.Edge.{Edge}
use Rattle.nest_base.specs.declared.numbers.Side.{Side}
use Rattle.half_edges.proofs.Numbers.{side_is_half_edge}
use Rattle.code_moves.specs.declared.moves.Move.{Move}
use Rattle.code_moves.specs.Moves.{way}
use Rattle.sound_code.specs.Sound.{IsEdgeMove}
use Rattle.replay_check.specs.declared.kinds.Kind.{Kind}
use Rattle.replay_check.specs.declared.kinds.Kind.TheVariants.{Unlit, OnEdge, Along, LeadIn, Blocked, Off}
use Rattle.replay_check.specs.Kinds.{IsAlongEdge, IsOffDrawing, IsKind}

module _ (edges : List Edge) (m : Move) where
  -- what goes along a half-edge is an edge move
  pub kind_is_edge_move : (s : Side) → IsKind edges m (OnEdge s) → IsEdgeMove edges m
  kind_is_edge_move s (lit, side) = (lit, side_is_half_edge edges s.0 (way m) side)

  -- a move that strays off the drawing is of no other kind
  pub off_kind : (kind : Kind) → IsKind edges m kind → IsOffDrawing edges m → kind ≡ Off
  off_kind Unlit unlit off = absurd (both_ways m.lit unlit off.off_edges.0)
  off_kind (OnEdge s) on off = absurd (off.off_edges.1 (kind_is_edge_move s on).1)
  off_kind Along along off = absurd (off.not_along along)
  off_kind LeadIn lead off = absurd (off.no_lead_in lead.0)
  off_kind Blocked blocked off = absurd (off.no_lead_in blocked.0)
  off_kind Off is off = refl

  -- nor is one along an edge
  pub along_kind : (kind : Kind) → IsKind edges m kind → IsAlongEdge edges m → kind ≡ Along
  along_kind Unlit unlit along = absurd (both_ways m.lit unlit along.off_edges.0)
  along_kind (OnEdge s) on along = absurd (along.off_edges.1 (kind_is_edge_move s on).1)
  along_kind Along is along = refl
  along_kind LeadIn lead along = absurd (lead.0.not_along along)
  along_kind Blocked blocked along = absurd (blocked.0.not_along along)
  along_kind Off off along = absurd (off.not_along along)

  -- an edge move has the kind of a half-edge
  pub edge_kind : (kind : Kind) → IsKind edges m kind → IsEdgeMove edges m → (s : Side) × (kind ≡ OnEdge s)
  edge_kind Unlit unlit edge = absurd (both_ways m.lit unlit edge.0)
  edge_kind (OnEdge s) on edge = (s, refl)
  edge_kind Along along edge = absurd (along.off_edges.1 edge.1)
  edge_kind LeadIn lead edge = absurd (lead.0.off_edges.1 edge.1)
  edge_kind Blocked blocked edge = absurd (blocked.0.off_edges.1 edge.1)
  edge_kind Off off edge = absurd (off.off_edges.1 edge.1)
