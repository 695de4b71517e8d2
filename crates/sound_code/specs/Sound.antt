-- What sound code for the edges of a drawing is.
use Rattle.std.specs.Prelude.{◌≡◌, List, ◌∷◌, ◌++◌, map, IsTrue, All}
use Rattle.nest_base.specs.declared.places.Point.{Point}
use Rattle.nest_base.specs.declared.places.Edge.{Edge}
use Rattle.nest_base.specs.Plane.{HalfEdge}
use Rattle.nest_base.specs.Selection.{Selects, HasCount}
use Rattle.plate_sides.specs.HalfEdges.{IsHalfEdge, IsHalfEdgeOf}
use Rattle.plate_sides.specs.Enclosing.{IsOrderEnclosing}
use Rattle.plate_parts.specs.declared.leads.Lead.{Lead}
use Rattle.plate_parts.specs.LeadIns.{IsFreeLeadIn}
use Rattle.code_moves.specs.declared.moves.Move.{Move}
use Rattle.code_moves.specs.Moves.{way}

-- an edge move: a lit move whose two ends are the two ends of one edge
abbrev pub IsEdgeMove : List Edge → Move → Type 0
IsEdgeMove edges m = IsTrue m.lit × IsHalfEdge edges (way m)

-- a lit move along e, one way or the other
abbrev pub IsMoveAlong : Edge → Move → Type 0
IsMoveAlong e m = IsTrue m.lit × IsHalfEdgeOf e (way m)

-- a lit move that goes along no edge
abbrev pub IsLitOffEdges : List Edge → Move → Type 0
IsLitOffEdges edges m = IsTrue m.lit × (IsHalfEdge edges (way m) → ⊥)

-- the lead-in that a move burns
abbrev pub lead_of : Move → Lead
lead_of m = record { from = m.from; to = m.to }

-- m, between the moves before it and those after it, is a lead-in: it is fresh, the next move is an edge move that isn't fresh, and it is free
-- before that one's half-edge, with all earlier lit moves that go along no edge as earlier lead-ins
pub record IsLeadIn (edges : List Edge) (names : List Point) (before : List Move) (m : Move) (after : List Move) : Type 0 where
  pub fresh : IsTrue m.fresh
  pub next : Move
  pub rest : List Move
  pub follows : after ≡ next ∷ rest
  pub on_edge : IsEdgeMove edges next
  pub not_fresh : IsTrue next.fresh → ⊥
  pub earlier : List Move
  pub all_earlier : Selects (IsLitOffEdges edges) before earlier
  pub free : IsFreeLeadIn edges names (map lead_of earlier) (way next) m.from

-- each lit move that goes along no edge is a lead-in
abbrev pub AreLeadIns : List Edge → List Point → List Move → Type 0
AreLeadIns edges names moves =
    (before : List Move) (m : Move) (after : List Move) → moves ≡ before ++ m ∷ after → IsLitOffEdges edges m → IsLeadIn edges names before m after

-- the half-edges that the edge moves burn, in order
abbrev pub AreBurns : List Edge → List Move → List HalfEdge → Type 0
AreBurns edges moves burns = (edge_moves : List Move) × Selects (IsEdgeMove edges) moves edge_moves × (burns ≡ map way edge_moves)

-- each lit move is an edge move or a lead-in, along each edge goes exactly one, and no edge is detached before it burns
pub record IsSoundCode (edges : List Edge) (names : List Point) (moves : List Move) : Type 0 where
  pub lead_ins : AreLeadIns edges names moves
  pub each_edge_once : All (λ (e : Edge). HasCount (IsMoveAlong e) moves 1) edges
  pub order_enclosing : (burns : List HalfEdge) × AreBurns edges moves burns × IsOrderEnclosing edges burns
