-- Entities, written as their pairs.
use Rattle.std.specs.Prelude.{ℕ, ◌+◌, List, [], ◌∷◌, pos, codes}
use Rattle.dxf_groups.specs.Pairs.{Pair}
use Rattle.dxf_entities.specs.Entities.{Entity}

-- the pairs of these codes and values, the first with its value on this line
abbrev pub pairs_at : ℕ → List (ℕ × List ℕ) → List Pair
pairs_at line [] = []
pairs_at line (p ∷ more) = record { code = pos p.0; value = p.1; line = line } ∷ pairs_at (line + 2) more

-- an entity with this name on line 2, and these pairs behind it
abbrev pub entity : List ℕ → List (ℕ × List ℕ) → Entity
entity name rest = record { head = record { code = pos 0; value = name; line = 2 }; rest = pairs_at 4 rest }

-- a LINE from (1.5, -2) to (30, 0.0005) millimetres
abbrev pub a_line : Entity
a_line = entity (codes "LINE") ((8, codes "CUT") ∷ (10, codes "1.5") ∷ (20, codes "-2") ∷ (11, codes " 3E1 ") ∷ (21, codes ".0005") ∷ [])

-- a LINE from (1, 2) to (3, 4) millimetres, with further groups behind
abbrev pub line_with : List (ℕ × List ℕ) → Entity
line_with more = entity (codes "LINE") ((10, codes "1") ∷ (20, codes "2") ∷ (11, codes "3") ∷ (21, codes "4") ∷ more)

-- a POLYLINE with these groups
abbrev pub polyline_with : List (ℕ × List ℕ) → Entity
polyline_with groups = entity (codes "POLYLINE") groups

-- a VERTEX at (1, 2) millimetres, with further groups behind
abbrev pub vertex_with : List (ℕ × List ℕ) → Entity
vertex_with more = entity (codes "VERTEX") ((10, codes "1") ∷ (20, codes "2") ∷ more)

-- a TEXT at (5, 5) millimetres
abbrev pub a_text : Entity
a_text = entity (codes " TEXT ") ((10, codes "5.0") ∷ (20, codes "5.0") ∷ (40, codes "2.5") ∷ (1, codes " BRACKET ") ∷ [])
