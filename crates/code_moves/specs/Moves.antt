-- The moves of a code.
use Rattle.std.specs.Prelude.{List, filter}
use Rattle.nest_base.specs.Plane.{HalfEdge}
use Rattle.code_moves.specs.declared.moves.Move.{Move}

-- the way that a move goes
abbrev pub way : Move → HalfEdge
way m = record { from = m.from; to = m.to }

-- the moves that burn, in order
abbrev pub lit_moves : List Move → List Move
lit_moves moves = filter (λ (m : Move). m.lit) moves
