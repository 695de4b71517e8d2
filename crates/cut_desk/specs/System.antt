-- What a call of the system comes to at a desk.
use Rattle.std.specs.Prelude.{ℕ, ◌+◌, ◌-◌, ◌^◌, ◌==◌, ◌&&◌, nat_lt, min, true, if◌then◌else◌, List, length, Some, None, Result, Ok, Err}
use Rattle.std.specs.declared.option.Option.{Option}
use Rattle.std.specs.Fs.{with_write, with_create, new_options}
use Rattle.std.specs.declared.fs.options.OpenOptions.{OpenOptions}

-- how many bytes of a piece were taken: none is no answer where there is one to take
abbrev pub taken_of : Option ℕ → List ℕ → Option ℕ
taken_of None piece = None
taken_of (Some count) piece = if (count == 0) && nat_lt 0 (length piece) then None else Some count

-- how a file is opened that is written at a place: it is made at place 0 where it is absent, and never emptied
abbrev pub options_to_write : ℕ → OpenOptions
options_to_write at = with_create (with_write new_options true) (at == 0)

-- the count of faults after a call: one more where it failed, up to the last value of a u64
abbrev pub faults_after : {E : Type 0} → ℕ → Result ℕ E → ℕ
faults_after faults (Ok count) = faults
faults_after faults (Err e) = min (faults + 1) (2 ^ 64 - 1)
