-- What is left of a line without its comments, blanks and tabs.
use Rattle.std.specs.Prelude.{ℕ, if◌then◌else◌, List, Option, Some, None}
use Rattle.std.specs.List.{slice_split}
use Rattle.code_moves.specs.Words.{opens_comment, are_commented, bare}

-- the text that is left of a line, where its comments are closed
abbrev pub left_of : List ℕ → Option (List ℕ)
left_of line = if are_commented (slice_split opens_comment line) then Some (bare line) else None
