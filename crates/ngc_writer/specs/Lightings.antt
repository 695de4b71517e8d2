-- The lines that begin a chain.
use Rattle.std.specs.Prelude.{ℕ, List, [], ◌++◌, Option, None, Some, codes}
use Rattle.nest_base.specs.declared.places.Point.{Point}
use Rattle.code_moves.specs.CodeText.{motion_text}

-- where the torch is lit for a chain that begins at `first`
abbrev pub lit_at : Option Point → Point → Point
lit_at None first = first
lit_at (Some q) first = q

-- the line that follows the lead-in
abbrev pub lead_text : Option Point → Point → List ℕ
lead_text None first = []
lead_text (Some q) first = motion_text (codes "G1") first

abbrev pub lighting_text : Option Point → Point → List ℕ
lighting_text lead first = motion_text (codes "G0") (lit_at lead first) ++ codes "M3\n" ++ lead_text lead first
