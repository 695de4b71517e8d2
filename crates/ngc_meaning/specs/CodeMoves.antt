-- Moves such as code gives: what holds of the moves of every code without a fault.
use Rattle.std.specs.Prelude.{◌≡◌, ◌⊎◌, ⊤, ℕ, ◌≤◌, ◌^◌, false, List, [], ◌∷◌, length, IsTrue, All, pos, None}
use Rattle.nest_base.specs.declared.places.Point.{Point}
use Rattle.nest_base.specs.Range.{IsWithin}
use Rattle.code_moves.specs.declared.moves.Move.{Move}
use Rattle.code_moves.specs.Meaning.{code_range, code_refusal_of, moves_of}

-- where the torch stands before the first line
abbrev pub origin : Point
origin = record { x = pos 0; y = pos 0 }

-- the move stands on the spot
abbrev pub IsSpot : Move → Type 0
IsSpot m = m.from ≡ m.to

-- one move for itself: only a lit one is fresh, one on the spot is lit and fresh, and its ends lie within the range of places in code
pub record IsCodeMove (m : Move) : Type 0 where
  pub fresh_is_lit : IsTrue m.fresh → IsTrue m.lit
  pub spot_is_lit : IsSpot m → IsTrue m.lit
  pub spot_is_fresh : IsSpot m → IsTrue m.fresh
  pub from_within : IsWithin code_range m.from
  pub to_within : IsWithin code_range m.to

-- n can follow m: it begins where m ends, on a later line unless one of the two stands on the spot, and where it burns on, m burnt a way
pub record Follows (m n : Move) : Type 0 where
  pub joined : n.from ≡ m.to
  pub line : m.line ≤ n.line
  pub one_a_line : m.line ≡ n.line → IsSpot m ⊎ IsSpot n
  pub burns_on : IsTrue n.lit → (IsTrue n.fresh → ⊥) → IsTrue m.lit
  pub from_a_way : IsTrue n.lit → (IsTrue n.fresh → ⊥) → IsSpot m → ⊥

-- each move can follow the one before it, and the first one m
abbrev pub EachFollows : Move → List Move → Type 0
EachFollows m [] = ⊤
EachFollows m (n ∷ moves) = Follows m n × EachFollows n moves

-- how the torch stands before the first line, as a move: unlit at the origin
abbrev pub before_the_code : Move
before_the_code = record { from = origin; to = origin; lit = false; fresh = false; line = 0 }

-- a code has at most 2 ^ 26 bytes, so as many lines, and each gives at most two moves
abbrev pub most_moves : ℕ
most_moves = 2 ^ 27

-- moves such as code gives
pub record AreCodeMoves (moves : List Move) : Type 0 where
  pub each : All IsCodeMove moves
  pub in_order : EachFollows before_the_code moves
  pub few : length moves ≤ most_moves

-- the moves of a code without a fault are such
abbrev pub MovesOfCodeAreSuch : Type 0
MovesOfCodeAreSuch = (bytes : List ℕ) → length bytes ≤ 2 ^ 26 → code_refusal_of bytes ≡ None → AreCodeMoves (moves_of bytes)
