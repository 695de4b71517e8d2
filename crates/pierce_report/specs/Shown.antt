-- How bytes are printed that may not print as they are.
use Rattle.std.specs.Prelude.{ℕ, ◌||◌, nat_lt, if◌then◌else◌, List, map}

-- a byte as it's printed: one that doesn't print as it is becomes `?`
abbrev pub shown_byte : ℕ → ℕ
shown_byte b = if nat_lt b 32 || nat_lt 126 b then 63 else b

-- a text as it's printed
abbrev pub shown : List ℕ → List ℕ
shown text = map shown_byte text
