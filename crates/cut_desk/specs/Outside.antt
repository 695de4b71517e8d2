-- What a desk shows, and what its calls do to it.
use Rattle.std.specs.Prelude.{◌≡◌, ◌≢◌, ◌⊎◌, ℕ, ◌+◌, ◌-◌, ◌^◌, ◌<◌, ◌≤◌, min, List, ◌++◌, length, take, drop, ⊤, Some, None}
use Rattle.std.specs.declared.option.Option.{Option}

-- what is told of a file: nothing, or that there is none, or its bytes
abbrev pub Told : Type 0
Told = Option (Option (List ℕ))

-- what a desk shows: files by name, what was printed where it tells that, and how often calls failed
pub record Outside : Type 0 where
  pub held : List ℕ → Told
  pub printed : Option (List ℕ)
  pub read_faults : List ℕ → ℕ
  pub write_faults : List ℕ → ℕ
  pub print_faults : ℕ

-- a count went up by a fault at least, or stands at the last value of a u64
abbrev pub Rose : ℕ → ℕ → Type 0
Rose before now = min (before + 1) (2 ^ 64 - 1) ≤ now

-- no count fell
pub record Later (old new : Outside) : Type 0 where
  pub reads : (name : List ℕ) → old.read_faults name ≤ new.read_faults name
  pub writes : (name : List ℕ) → old.write_faults name ≤ new.write_faults name
  pub prints : old.print_faults ≤ new.print_faults

-- no file changed
abbrev pub SameHeld : Outside → Outside → Type 0
SameHeld old new = (name : List ℕ) → new.held name ≡ old.held name

-- no file changed, and nothing was printed
pub record SameFiles (old new : Outside) : Type 0 where
  pub files : SameHeld old new
  pub printed : new.printed ≡ old.printed

-- no file but the one of this name changed, and nothing was printed
pub record SameOthers (name : List ℕ) (old new : Outside) : Type 0 where
  pub files : (other : List ℕ) → other ≢ name → new.held other ≡ old.held other
  pub printed : new.printed ≡ old.printed

-- where the bytes of a file are told, P holds of them
abbrev pub WhereTold : Told → (List ℕ → Type 0) → Type 0
WhereTold None P = ⊤
WhereTold (Some None) P = ⊤
WhereTold (Some (Some file)) P = P file

-- these are the bytes of the file, where anything is told of it
abbrev pub IsTold : Told → List ℕ → Type 0
IsTold None bytes = ⊤
IsTold (Some None) bytes = ⊥
IsTold (Some (Some file)) bytes = file ≡ bytes

-- the first count bytes of the buffer are those of the file from a place on; none only where the file ends there or before
pub record IsPiece (file : List ℕ) (at : ℕ) (buffer : List ℕ) (count : ℕ) : Type 0 where
  pub front : take count buffer ≡ take count (drop at file)
  pub within : at ≤ length file → at + count ≤ length file
  pub end : count ≡ 0 → 0 < length buffer → length file ≤ at

-- the place is the end of the file, where anything is told of it
abbrev pub IsEnd : Told → ℕ → Type 0
IsEnd None at = ⊤
IsEnd (Some None) at = ⊥
IsEnd (Some (Some file)) at = at ≡ length file

-- count bytes were taken of these: no more than there are, and at least one where there is one
abbrev pub IsTaken : ℕ → List ℕ → Type 0
IsTaken count bytes = (count ≤ length bytes) × (0 < length bytes → 0 < count)

-- the bytes of a file after a piece was written at a place: what stood before the place, and the piece
abbrev pub bytes_after_write : Option (List ℕ) → ℕ → List ℕ → List ℕ
bytes_after_write None at piece = piece
bytes_after_write (Some file) at piece = take at file ++ piece

-- what is told of a file after a piece was written at a place
abbrev pub after_write : Told → ℕ → List ℕ → Told
after_write None at piece = None
after_write (Some file) at piece = Some (Some (bytes_after_write file at piece))

-- what is told of a file that was made anew of these bytes
abbrev pub made_of : Told → List ℕ → Told
made_of None bytes = None
made_of (Some file) bytes = Some (Some bytes)

-- the file is as it was, or is made anew of a front of the bytes that isn't empty
abbrev pub IsPartlyWritten : Told → Told → List ℕ → Type 0
IsPartlyWritten old new bytes = (new ≡ old) ⊎ ((n : ℕ) × (0 < n) × (n ≤ length bytes) × (new ≡ made_of old (take n bytes)))

-- what was printed before, and these bytes
abbrev pub print_more : Option (List ℕ) → List ℕ → Option (List ℕ)
print_more None bytes = None
print_more (Some before) bytes = Some (before ++ bytes)

-- a front of the bytes was printed
abbrev pub IsPartlyPrinted : Option (List ℕ) → Option (List ℕ) → List ℕ → Type 0
IsPartlyPrinted old new bytes = (n : ℕ) × (n ≤ length bytes) × (new ≡ print_more old (take n bytes))

-- a desk that tells nothing of files and of what was printed, with one count for all faults
abbrev pub untold : ℕ → Outside
untold faults = record {
  held = λ _. None;
  printed = None;
  read_faults = λ _. faults;
  write_faults = λ _. faults;
  print_faults = faults;
}
