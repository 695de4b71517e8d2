-- The rows of names, by number.
use Rattle.std.specs.Prelude.{ℕ, List, [], ◌∷◌, slice_index}
use Rattle.nest_base.specs.declared.drawing.Name.{Name}
use Rattle.pierce_report.specs.Report.{PartRow}

-- the row of a name in the face with this number
abbrev pub part_row : List ℕ → ℕ → Name → PartRow
part_row ranks face name = record { text = name.text; rank = slice_index ranks face }

-- the rows of names, whose faces have these numbers
abbrev pub part_rows : List ℕ → List ℕ → List Name → List PartRow
part_rows ranks [] names = []
part_rows ranks (face ∷ faces) [] = []
part_rows ranks (face ∷ faces) (name ∷ names) = part_row ranks face name ∷ part_rows ranks faces names
