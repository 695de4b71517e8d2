-- Lead-ins among moves, found out one after another.
use Rattle.std.specs.Prelude.{◌≡◌, ℕ, ◌+◌, List, take, drop, map, slice_get, Some, IsTrue}
use Rattle.nest_base.specs.declared.places.Point.{Point}
use Rattle.nest_base.specs.declared.places.Edge.{Edge}
use Rattle.nest_base.specs.declared.numbers.Side.{Side}
use Rattle.nest_base.specs.Selection.{Selects}
use Rattle.plate_parts.specs.declared.leads.Lead.{Lead}
use Rattle.code_moves.specs.declared.moves.Move.{Move}
use Rattle.sound_code.specs.Sound.{IsLitOffEdges, IsLeadIn, lead_of}
use Rattle.replay_check.specs.declared.kinds.Kind.{Kind}
use Rattle.replay_check.specs.declared.kinds.Kind.TheVariants.{OnEdge}
use Rattle.replay_check.specs.Kinds.{MayLeadIn}

-- each move that may be a lead-in is one
abbrev pub LeadInsHold : List Edge → List Point → List Move → Type 0
LeadInsHold edges names moves =
    (i : ℕ) (m : Move) → slice_get moves i ≡ Some m → MayLeadIn edges m → IsLeadIn edges names (take i moves) m (drop (i + 1) moves)

-- the move at place i goes along this half-edge, and doesn't begin a lighting
pub record GoesOnAlong (moves : List Move) (kinds : List Kind) (i : ℕ) (side : Side) : Type 0 where
  pub move : Move
  pub at : slice_get moves i ≡ Some move
  pub not_fresh : IsTrue move.fresh → ⊥
  pub kind : slice_get kinds i ≡ Some (OnEdge side)

-- these are the ways of all lit moves among the first i that go along no edge
abbrev pub AreLeadsBefore : List Edge → List Move → ℕ → List Lead → Type 0
AreLeadsBefore edges moves i leads = (earlier : List Move) × Selects (IsLitOffEdges edges) (take i moves) earlier × (leads ≡ map lead_of earlier)
