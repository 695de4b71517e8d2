-- A desk in memory: its files and the room that is kept for them, what was printed, and which calls fail.
use Rattle.std.specs.Prelude.{◌≡◌, ◌≢◌, ℕ, ◌+◌, ◌-◌, ◌^◌, ◌≤◌, ◌==◌, Bool, ◌||◌, nat_lt, min, List, [], ◌++◌, length, take, drop, Some, find, is_none, option_and_then, unwrap_or, option_map}
use Rattle.std.specs.declared.option.Option.{Option}
use Rattle.std.specs.List.{list_any}
use Rattle.std.specs.Str.{bytes_eq}
use Rattle.cut_desk.specs.Outside.{Outside}

-- what is kept under a name: the file, where there is one, and the room for it
pub record Stored : Type 0 where
  pub name : List ℕ
  pub file : Option (List ℕ)
  pub room : ℕ

-- a desk in memory; `calls` counts the calls so far, and `failing` has the numbers of those that are to fail
pub record Memory : Type 0 where
  pub slots : List Stored
  pub printed : List ℕ
  pub print_room : ℕ
  pub calls : ℕ
  pub failing : List ℕ
  pub faults : ℕ

-- a desk on which nothing was done yet
abbrev pub empty_desk : Memory
empty_desk = record { slots = []; printed = []; print_room = 0; calls = 0; failing = []; faults = 0 }

-- the test by which a name finds what is kept under it
abbrev pub has_name : List ℕ → Stored → Bool
has_name name slot = bytes_eq slot.name name

-- the file of a name
abbrev pub file_in : List Stored → List ℕ → Option (List ℕ)
file_in slots name = option_and_then (λ slot. slot.file) (find (has_name name) slots)

-- the room of a name, 0 at first
abbrev pub room_in : List Stored → List ℕ → ℕ
room_in slots name = unwrap_or (option_map (λ slot. slot.room) (find (has_name name) slots)) 0

abbrev pub file_of : Memory → List ℕ → Option (List ℕ)
file_of desk name = file_in desk.slots name

abbrev pub room_of : Memory → List ℕ → ℕ
room_of desk name = room_in desk.slots name

-- no file and no room changed
pub record SameStored (old new : List Stored) : Type 0 where
  pub files : (name : List ℕ) → file_in new name ≡ file_in old name
  pub rooms : (name : List ℕ) → room_in new name ≡ room_in old name

-- the room of a name didn't shrink, and no file and no other room changed
pub record GrowsRoom (name : List ℕ) (old new : List Stored) : Type 0 where
  pub files : (other : List ℕ) → file_in new other ≡ file_in old other
  pub room : room_in old name ≤ room_in new name
  pub others : (other : List ℕ) → other ≢ name → room_in new other ≡ room_in old other

-- the file of a name is these bytes, and no other file and no room changed
pub record ReplacesFile (name bytes : List ℕ) (old new : List Stored) : Type 0 where
  pub file : file_in new name ≡ Some bytes
  pub others : (other : List ℕ) → other ≢ name → file_in new other ≡ file_in old other
  pub rooms : (other : List ℕ) → room_in new other ≡ room_in old other

-- the number of the next call of read, write or print, from 1
abbrev pub next_call : Memory → ℕ
next_call desk = min (desk.calls + 1) (2 ^ 64 - 1)

-- the next call is one of those that are to fail
abbrev pub is_to_fail : Memory → Bool
is_to_fail desk = list_any (λ number. number == next_call desk) desk.failing

-- a file of this size has no room: the room is 0, or less than the size
abbrev pub lacks_room : ℕ → ℕ → Bool
lacks_room room size = room == 0 || nat_lt room size

-- a read fails: its number is to fail, or there is no file of the name
abbrev pub fails_read : Memory → List ℕ → Bool
fails_read desk name = is_to_fail desk || is_none (file_of desk name)

-- a write at 0 or at the end of a file fails: its number is to fail, or the file as it would then be has no room
abbrev pub fails_write : Memory → List ℕ → ℕ → List ℕ → Bool
fails_write desk name at piece = is_to_fail desk || lacks_room (room_of desk name) (at + length piece)

-- a print fails: its number is to fail, or the printed bytes would be more than their room
abbrev pub fails_print : Memory → List ℕ → Bool
fails_print desk piece = is_to_fail desk || nat_lt desk.print_room (length desk.printed + length piece)

-- the desk after a call that was counted and changed nothing else
abbrev pub after_call : Memory → Memory
after_call desk = record desk { calls = next_call desk }

-- the desk after a call that failed: the call and the fault were counted
abbrev pub after_fault : Memory → Memory
after_fault desk = record desk { calls = next_call desk; faults = min (desk.faults + 1) (2 ^ 64 - 1) }

-- the buffer after as many bytes of the file from a place on as it takes were copied to its front
abbrev pub after_read : List ℕ → ℕ → List ℕ → List ℕ
after_read file at buffer = take (length buffer) (drop at file) ++ drop (length file - at) buffer

-- what a desk in memory shows: all of it, and its one count of faults
abbrev pub outside_of : Memory → Outside
outside_of desk = record {
  held = λ name. Some (file_of desk name);
  printed = Some desk.printed;
  read_faults = λ _. desk.faults;
  write_faults = λ _. desk.faults;
  print_faults = desk.faults;
}
