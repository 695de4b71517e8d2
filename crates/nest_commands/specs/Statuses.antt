-- What each status says of a run.
use Rattle.std.specs.Prelude.{◌≡◌, ◌≢◌, ◌⊎◌, ℕ, ◌<◌, ◌≤◌, List, [], ◌++◌, length, ⊤, codes, Some, None}
use Rattle.nest_base.specs.Limits.{most_bytes}
use Rattle.cut_desk.specs.Outside.{Outside, Rose, SameHeld, IsPartlyWritten, IsPartlyPrinted, made_of, print_more}
use Rattle.code_moves.specs.Meaning.{code_refusal_of, moves_of}
use Rattle.code_moves.specs.declared.faults.CodeError.TheVariants.{OutOfMemory as NoSpace}
use Rattle.replay_check.specs.Laws.{TellsFault}
use Rattle.dxf_entities.specs.declared.error.DrawingError.TheVariants.{OutOfMemory}
use Rattle.dxf_drawing.specs.Drawings.{segments_of, names_of, read_refusal_of}
use Rattle.segment_split.specs.Splits.{IsSplitRefusal}
use Rattle.segment_split.specs.declared.splitting.SplitError.TheVariants.{OutOfMemory as NoMemory}
use Rattle.nest_base.specs.declared.places.Edge.{Edge}
use Rattle.part_scrap.specs.Refusals.{IsPartRefusal}
use Rattle.part_scrap.specs.declared.error.PartError.TheVariants.{OutOfMemory as NoRoom}
use Rattle.nest_commands.specs.FaultText.{reading_text, splitting_text, naming_text, code_fault_text, judged_text}
use Rattle.nest_commands.specs.Outputs.{AreCutsOf, IsAccepted, IsOutput}
use Rattle.nest_commands.specs.Promise.{IsOrderEnclosingPlan, IsFewestWhereEven}
use Rattle.nest_commands.specs.declared.status.Refusal.{Refusal}
use Rattle.nest_commands.specs.declared.status.Refusal.TheVariants.{Reading, Splitting, Naming}
use Rattle.nest_commands.specs.declared.status.Status.{Status}
use Rattle.nest_commands.specs.declared.status.Status.TheVariants.{Done, Words, ReadFault, TooLong, Drawing, WriteFault, PrintFault, Memory, Code, Unsound}

abbrev pub exit_code_of : Status → ℕ
exit_code_of Done = 0
exit_code_of Words = 2
exit_code_of ReadFault = 3
exit_code_of TooLong = 3
exit_code_of (Drawing refusal) = 4
exit_code_of WriteFault = 5
exit_code_of PrintFault = 5
exit_code_of Memory = 6
exit_code_of (Unsound verdict) = 7
exit_code_of (Code fault) = 8

-- the line of a refused drawing
abbrev pub refusal_text : Refusal → List ℕ
refusal_text (Reading e) = reading_text e ++ codes "\n"
refusal_text (Splitting e) = splitting_text e ++ codes "\n"
refusal_text (Naming e) = naming_text e ++ codes "\n"

-- the line that is printed for a status
abbrev pub fault_text : Status → List ℕ
fault_text Done = []
fault_text Words = codes "usage: plan IN OUT | replay IN CODE\n"
fault_text ReadFault = codes "read fault\n"
fault_text TooLong = codes "file too long\n"
fault_text (Drawing refusal) = refusal_text refusal
fault_text WriteFault = codes "write fault\n"
fault_text PrintFault = []
fault_text Memory = codes "out of memory\n"
fault_text (Code fault) = code_fault_text fault ++ codes "\n"
fault_text (Unsound verdict) = judged_text verdict ++ codes "\n"

-- the drawing is refused, and for this reason first
abbrev pub IsRefused : List ℕ → Refusal → Type 0
IsRefused file (Reading e) = (read_refusal_of file ≡ Some e) × (e ≢ OutOfMemory)
IsRefused file (Splitting e) = (read_refusal_of file ≡ None) × IsSplitRefusal e (segments_of file) × (e ≢ NoMemory)
IsRefused file (Naming e) = (edges : List Edge) × AreCutsOf file edges × IsPartRefusal edges (names_of file) e × (e ≢ NoRoom)

-- a reason that names want of memory
abbrev pub IsForMemory : Refusal → Type 0
IsForMemory (Reading e) = e ≡ OutOfMemory
IsForMemory (Splitting e) = e ≡ NoMemory
IsForMemory (Naming e) = e ≡ NoRoom

-- a status holds no refusal for want of memory, and calls no sound code unsound
abbrev pub RefusesForNoMemory : Status → Type 0
RefusesForNoMemory (Drawing refusal) = IsForMemory refusal → ⊥
RefusesForNoMemory (Code fault) = fault ≢ NoSpace
RefusesForNoMemory (Unsound verdict) = TellsFault verdict
RefusesForNoMemory status = ⊤

-- what a status says of the drawing in IN that is to be planned: with every status but a read fault and want of memory it's decided
abbrev pub IsDecided : Status → List ℕ → Type 0
IsDecided TooLong file = most_bytes < length file
IsDecided (Drawing refusal) file = (length file ≤ most_bytes) × IsRefused file refusal
IsDecided Done file = (length file ≤ most_bytes) × IsAccepted file
IsDecided WriteFault file = (length file ≤ most_bytes) × IsAccepted file
IsDecided PrintFault file = (length file ≤ most_bytes) × IsAccepted file
IsDecided status file = ⊤

-- which count of faults rose; a plan judges no code
abbrev pub HasCause : Status → List ℕ → List ℕ → Outside → Outside → Type 0
HasCause ReadFault input output old new = Rose (old.read_faults input) (new.read_faults input)
HasCause WriteFault input output old new = Rose (old.write_faults output) (new.write_faults output)
HasCause PrintFault input output old new = Rose old.print_faults new.print_faults
HasCause (Code fault) input output old new = ⊥
HasCause (Unsound verdict) input output old new = ⊥
HasCause status input output old new = ⊤

-- none of the counts that the calls of `plan` raise where they fail has risen
pub record NoFaultRose (input output : List ℕ) (old new : Outside) : Type 0 where
  pub reads : Rose (old.read_faults input) (new.read_faults input) → ⊥
  pub writes : Rose (old.write_faults output) (new.write_faults output) → ⊥
  pub prints : Rose old.print_faults new.print_faults → ⊥

-- an accepted drawing within the limit is planned, or memory ran out
abbrev pub IsComplete : Status → List ℕ → Type 0
IsComplete status file = length file ≤ most_bytes → IsAccepted file → (status ≡ Done) ⊎ (status ≡ Memory)

-- what stands in OUT, and what was printed of the report
abbrev pub OutputIs : Status → List ℕ → List ℕ → Outside → Outside → Type 0
OutputIs Done drawing output old new =
    (code : List ℕ) × (report : List ℕ) × IsOutput drawing code report × (new.held output ≡ made_of (old.held output) code) × (new.printed ≡ print_more old.printed report)
OutputIs PrintFault drawing output old new =
    (code : List ℕ) × (report : List ℕ) × IsOutput drawing code report × (new.held output ≡ made_of (old.held output) code) × IsPartlyPrinted old.printed new.printed report
OutputIs WriteFault drawing output old new =
    (code : List ℕ) × (report : List ℕ) × IsOutput drawing code report × IsPartlyWritten (old.held output) (new.held output) code
OutputIs status drawing output old new = ⊤

-- the promise is kept for what was read from IN, written to OUT and printed
pub record KeepsPromise (drawing output : List ℕ) (old new : Outside) : Type 0 where
  pub accepted : read_refusal_of drawing ≡ None
  pub code : List ℕ
  pub written : new.held output ≡ made_of (old.held output) code
  pub has_no_fault : code_refusal_of code ≡ None
  pub report : List ℕ
  pub printed : new.printed ≡ print_more old.printed report
  pub promise : IsOrderEnclosingPlan (segments_of drawing) (names_of drawing) (moves_of code) report

-- the promise is kept, and where no vertex is odd each component took one pierce, which the report calls the fewest
abbrev pub KeepsFewestWhereEven : List ℕ → List ℕ → Outside → Outside → Type 0
KeepsFewestWhereEven drawing output old new =
    (kept : KeepsPromise drawing output old new) × IsFewestWhereEven kept.promise.edges kept.promise.lightings kept.report

-- which files may have changed: none, or OUT alone
abbrev pub OthersSame : List ℕ → Outside → Outside → Type 0
OthersSame output old new = (other : List ℕ) → other ≢ output → new.held other ≡ old.held other

abbrev pub FilesAre : Status → List ℕ → Outside → Outside → Type 0
FilesAre Done output old new = OthersSame output old new
FilesAre PrintFault output old new = OthersSame output old new
FilesAre WriteFault output old new = OthersSame output old new
FilesAre status output old new = SameHeld old new

-- the status's line was printed, or a front of it where the printing failed
abbrev pub IsFaultLine : Status → Outside → Outside → Type 0
IsFaultLine status old new =
    (new.printed ≡ print_more old.printed (fault_text status)) ⊎ (Rose old.print_faults new.print_faults × IsPartlyPrinted old.printed new.printed (fault_text status))

-- what is printed where no report is
abbrev pub PrintsLine : Status → Outside → Outside → Type 0
PrintsLine Done old new = ⊤
PrintsLine PrintFault old new = ⊤
PrintsLine status old new = IsFaultLine status old new

-- nothing is printed where no report is
abbrev pub IsQuiet : Status → Outside → Outside → Type 0
IsQuiet Done old new = ⊤
IsQuiet PrintFault old new = ⊤
IsQuiet status old new = new.printed ≡ old.printed
