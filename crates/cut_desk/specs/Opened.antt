-- The file that stays open between the reads of one name.
use Rattle.std.specs.Prelude.{◌≡◌, ℕ, ◌≤◌, ◌==◌, ◌||◌, if◌then◌else◌, List, length, Some, None, IfSome, IsSome, not}
use Rattle.std.specs.declared.option.Option.{Option}
use Rattle.std.specs.Str.{bytes_eq}
use Rattle.cut_desk.specs.declared.opened.Opened.{Opened}

-- the open file in which a read of this name at this place goes on: none at place 0, and none of another name
abbrev pub open_file_for : {F : Type 0} → Option (Opened F) → List ℕ → ℕ → Option F
open_file_for None name at = None
open_file_for (Some opened) name at = if (at == 0) || not (bytes_eq opened.name name) then None else Some opened.file

-- a file is kept open under this name, or none is, as it is for a name of more bytes than are kept
abbrev pub IsKeptOpen : {F : Type 0} → List ℕ → Option (Opened F) → Type 0
IsKeptOpen name opened = IfSome opened (λ kept. kept.name ≡ name) × (length name ≤ 4096 → IsSome opened)
