-- The verdict on moves: that they are sound, or the first of their faults in a set order.
use Rattle.std.specs.Prelude.{◌≡◌, ◌⊎◌, ℕ, ◌+◌, ◌<◌, List, take, drop, slice_get, Some, Contains, IsTrue}
use Rattle.nest_base.specs.declared.places.Point.{Point}
use Rattle.nest_base.specs.declared.places.Edge.{Edge}
use Rattle.nest_base.specs.Plane.{HalfEdge, twin}
use Rattle.nest_base.specs.Selection.{HasCount}
use Rattle.plate_edges.specs.Edges.{IsEdgeBefore}
use Rattle.plate_sides.specs.Reach.{Reaches}
use Rattle.code_moves.specs.declared.moves.Move.{Move}
use Rattle.code_moves.specs.Moves.{way}
use Rattle.sound_code.specs.Sound.{IsEdgeMove, IsMoveAlong, IsLeadIn, AreBurns, IsSoundCode}
use Rattle.replay_check.specs.declared.verdict.Verdict.{Verdict}
use Rattle.replay_check.specs.declared.verdict.Verdict.TheVariants.{Sound, OffDrawing, PartEdge, Twice, BadLead, Missed, Detached}
use Rattle.replay_check.specs.Kinds.{IsAlongEdge, MayLeadIn, IsOffDrawing}

-- P holds of the move m at place i, between those before it and those after it
abbrev pub HoldsAt : (List Move → Move → List Move → Type 0) → List Move → ℕ → Move → Type 0
HoldsAt P moves i m = (slice_get moves i ≡ Some m) × P (take i moves) m (drop (i + 1) moves)

-- it holds of none
abbrev pub HoldsNowhere : (List Move → Move → List Move → Type 0) → List Move → Type 0
HoldsNowhere P moves = (i : ℕ) (m : Move) → HoldsAt P moves i m → ⊥

-- the first move of which it holds stands on this line
pub record IsFirst (P : List Move → Move → List Move → Type 0) (moves : List Move) (line : ℕ) : Type 0 where
  pub place : ℕ
  pub move : Move
  pub holds : HoldsAt P moves place move
  pub line_is : move.line ≡ line
  pub none_before : (i : ℕ) (m : Move) → i < place → HoldsAt P moves i m → ⊥

-- the last one does
pub record IsLast (P : List Move → Move → List Move → Type 0) (moves : List Move) (line : ℕ) : Type 0 where
  pub place : ℕ
  pub move : Move
  pub holds : HoldsAt P moves place move
  pub line_is : move.line ≡ line
  pub none_after : (i : ℕ) (m : Move) → place < i → HoldsAt P moves i m → ⊥

-- m burns, and is neither an edge move, nor goes along an edge, nor may it be a lead-in
abbrev pub StraysOff : List Edge → List Move → Move → List Move → Type 0
StraysOff edges before m after = IsOffDrawing edges m

-- m goes along an edge, and isn't one whole edge
abbrev pub BurnsPart : List Edge → List Move → Move → List Move → Type 0
BurnsPart edges before m after = IsAlongEdge edges m

-- an earlier move has burnt the edge of m
pub record BurnsAgain (edges : List Edge) (before : List Move) (m : Move) (after : List Move) : Type 0 where
  pub edge : Edge
  pub among : Contains edges edge
  pub along : IsMoveAlong edge m
  pub earlier : Move
  pub came_before : Contains before earlier
  pub along_too : IsMoveAlong edge earlier

-- m may be a lead-in, and is none
pub record LeadsBadly (edges : List Edge) (names : List Point) (before : List Move) (m : Move) (after : List Move) : Type 0 where
  pub lead : MayLeadIn edges m
  pub bad : IsLeadIn edges names before m after → ⊥

-- no move burns e
abbrev pub IsMissed : List Edge → List Move → Edge → Type 0
IsMissed edges moves e = Contains edges e × ((m : Move) → Contains moves m → IsMoveAlong e m → ⊥)

-- e is the least of those that no move burns
pub record IsLeastMissed (edges : List Edge) (moves : List Move) (e : Edge) : Type 0 where
  pub missed : IsMissed edges moves e
  pub least : (f : Edge) → IsMissed edges moves f → IsEdgeBefore f e → ⊥

-- m is an edge move, and one of its half-edges doesn't reach Outer when the edges of all earlier edge moves are burnt
pub record BurnsDetached (edges : List Edge) (before : List Move) (m : Move) (after : List Move) : Type 0 where
  pub on_edge : IsEdgeMove edges m
  pub burnt : List HalfEdge
  pub earlier : AreBurns edges before burnt
  pub cut_off : (Reaches edges burnt (way m) → ⊥) ⊎ (Reaches edges burnt (twin (way m)) → ⊥)

-- each move that burns burns one whole edge, or may be a lead-in
pub record BurnEdges (edges : List Edge) (moves : List Move) : Type 0 where
  pub none_off : HoldsNowhere (StraysOff edges) moves
  pub none_along : HoldsNowhere (BurnsPart edges) moves

-- and none burns an edge again
pub record BurnEdgesOnce (edges : List Edge) (moves : List Move) : Type 0 where
  pub whole : BurnEdges edges moves
  pub none_again : HoldsNowhere (BurnsAgain edges) moves

-- and what may be a lead-in is one
pub record BurnBehindLeadIns (edges : List Edge) (names : List Point) (moves : List Move) : Type 0 where
  pub once : BurnEdgesOnce edges moves
  pub none_badly : HoldsNowhere (LeadsBadly edges names) moves

-- and no edge is missed
pub record BurnAll (edges : List Edge) (names : List Point) (moves : List Move) : Type 0 where
  pub behind_lead_ins : BurnBehindLeadIns edges names moves
  pub none_missed : (e : Edge) → IsMissed edges moves e → ⊥

-- the verdict on moves: sound, with so many lightings, or the first of six faults in this order, with its line or its edge
abbrev pub IsVerdict : List Edge → List Point → List Move → Verdict → Type 0
IsVerdict edges names moves (OffDrawing line) = IsFirst (StraysOff edges) moves line
IsVerdict edges names moves (PartEdge line) = HoldsNowhere (StraysOff edges) moves × IsFirst (BurnsPart edges) moves line
IsVerdict edges names moves (Twice line) = BurnEdges edges moves × IsFirst (BurnsAgain edges) moves line
IsVerdict edges names moves (BadLead line) = BurnEdgesOnce edges moves × IsFirst (LeadsBadly edges names) moves line
IsVerdict edges names moves (Missed low high) = BurnBehindLeadIns edges names moves × IsLeastMissed edges moves (record { low = low; high = high })
IsVerdict edges names moves (Detached line) = BurnAll edges names moves × IsLast (BurnsDetached edges) moves line
IsVerdict edges names moves (Sound pierces) = IsSoundCode edges names moves × HasCount (λ (m : Move). IsTrue m.fresh) moves pierces
