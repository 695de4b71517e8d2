-- The command line.
use Rattle.std.specs.Prelude.{ℕ, Bool, false, ◌&&◌, ◌==◌, not, if◌then◌else◌, List, [], ◌∷◌, Option, Some, None, codes}
use Rattle.std.specs.Str.{bytes_eq}

-- the files of `plan IN OUT`
pub record FileNames : Type 0 where
  pub input : List ℕ
  pub output : List ℕ

-- a word that names a file: not empty, and no option
abbrev pub names_file : List ℕ → Bool
names_file [] = false
names_file (c ∷ cs) = not (c == 45)

abbrev pub are_files : List ℕ → List ℕ → Bool
are_files input output = names_file input && (names_file output && not (bytes_eq input output))

-- the files that the words name, where they are `plan IN OUT` with IN and OUT different
abbrev pub plan_of : List (List ℕ) → Option FileNames
plan_of (command ∷ input ∷ output ∷ []) = if bytes_eq command (codes "plan") && are_files input output then Some (record { input = input; output = output }) else None
plan_of words = None

-- the files of `replay IN CODE`
pub record CodeNames : Type 0 where
  pub input : List ℕ
  pub code : List ℕ

-- the files that the words name, where they are `replay IN CODE`; both may be one file
abbrev pub replay_of : List (List ℕ) → Option CodeNames
replay_of (command ∷ input ∷ code ∷ []) =
    if bytes_eq command (codes "replay") && (names_file input && names_file code) then Some (record { input = input; code = code }) else None
replay_of words = None
