-- What each status says of a run of `replay IN CODE`.
use Rattle.std.specs.Prelude.{◌≡◌, ◌⊎◌, ⊤, ℕ, ◌<◌, ◌≤◌, List, length, IsTrue, Some, None}
use Rattle.nest_base.specs.declared.places.Edge.{Edge}
use Rattle.nest_base.specs.Limits.{most_bytes}
use Rattle.nest_base.specs.Selection.{HasCount}
use Rattle.cut_desk.specs.Outside.{Outside, Told, WhereTold, Rose, IsPartlyPrinted, print_more}
use Rattle.plate_edges.specs.Edges.{AreEdgesOf}
use Rattle.part_scrap.specs.Naming.{places_of}
use Rattle.code_moves.specs.declared.moves.Move.{Move}
use Rattle.code_moves.specs.Meaning.{code_refusal_of, moves_of}
use Rattle.dxf_drawing.specs.Drawings.{segments_of, names_of}
use Rattle.sound_code.specs.Sound.{IsSoundCode}
use Rattle.replay_check.specs.declared.verdict.Verdict.{Verdict}
use Rattle.replay_check.specs.declared.verdict.Verdict.TheVariants.{Sound}
use Rattle.replay_check.specs.Verdicts.{IsVerdict}
use Rattle.replay_check.specs.Laws.{TellsFault}
use Rattle.nest_commands.specs.FaultText.{sound_text}
use Rattle.nest_commands.specs.Outputs.{IsDrawingOf, IsAccepted}
use Rattle.nest_commands.specs.Statuses.{IsRefused}
use Rattle.nest_commands.specs.declared.status.Status.{Status}
use Rattle.nest_commands.specs.declared.status.Status.TheVariants.{Done, ReadFault, TooLong, Drawing, WriteFault, PrintFault, Memory, Code, Unsound}

-- where the bytes of both files are told, P holds of them
abbrev pub WhereBothTold : Told → Told → (List ℕ → List ℕ → Type 0) → Type 0
WhereBothTold input code P = WhereTold input (λ file. WhereTold code (P file))

-- the verdict on the code for the drawing
pub record IsJudged (file code : List ℕ) (verdict : Verdict) : Type 0 where
  pub edges : List Edge
  pub drawing : IsDrawingOf file edges
  pub accepted : code_refusal_of code ≡ None
  pub judged : IsVerdict edges (places_of (names_of file)) (moves_of code) verdict

-- neither of two files is longer than the limit
abbrev pub AreShort : List ℕ → List ℕ → Type 0
AreShort file code = (length file ≤ most_bytes) × (length code ≤ most_bytes)

-- what a status says of IN and CODE: with every status but a read fault and want of memory it's decided
abbrev pub IsReplayDecided : Status → List ℕ → List ℕ → Type 0
IsReplayDecided TooLong file code = (most_bytes < length file) ⊎ (most_bytes < length code)
IsReplayDecided (Drawing refusal) file code = AreShort file code × IsRefused file refusal
IsReplayDecided (Code fault) file code = AreShort file code × IsAccepted file × (code_refusal_of code ≡ Some fault)
IsReplayDecided (Unsound verdict) file code = AreShort file code × IsJudged file code verdict × TellsFault verdict
IsReplayDecided Done file code = AreShort file code × ((pierces : ℕ) × IsJudged file code (Sound pierces))
IsReplayDecided PrintFault file code = AreShort file code × ((pierces : ℕ) × IsJudged file code (Sound pierces))
IsReplayDecided WriteFault file code = ⊥
IsReplayDecided status file code = ⊤

-- what it says of IN for itself, whatever is told of CODE: the drawing is refused before the code is
abbrev pub IsDrawingDecided : Status → List ℕ → Type 0
IsDrawingDecided (Drawing refusal) file = (length file ≤ most_bytes) × IsRefused file refusal
IsDrawingDecided (Code fault) file = (length file ≤ most_bytes) × IsAccepted file
IsDrawingDecided (Unsound verdict) file = (length file ≤ most_bytes) × IsAccepted file
IsDrawingDecided Done file = (length file ≤ most_bytes) × IsAccepted file
IsDrawingDecided PrintFault file = (length file ≤ most_bytes) × IsAccepted file
IsDrawingDecided status file = ⊤

-- where CODE is absent, an IN within the limit isn't judged
abbrev pub IsUnread : Status → List ℕ → Type 0
IsUnread status file = length file ≤ most_bytes → (status ≡ ReadFault) ⊎ (status ≡ Memory)

-- which count of faults rose
abbrev pub HasReplayCause : Status → List ℕ → List ℕ → Outside → Outside → Type 0
HasReplayCause ReadFault input code old new = Rose (old.read_faults input) (new.read_faults input) ⊎ Rose (old.read_faults code) (new.read_faults code)
HasReplayCause PrintFault input code old new = Rose old.print_faults new.print_faults
HasReplayCause WriteFault input code old new = ⊥
HasReplayCause status input code old new = ⊤

-- none of the counts that the calls of `replay` raise where they fail has risen
pub record NoReplayFaultRose (input code : List ℕ) (old new : Outside) : Type 0 where
  pub reads : Rose (old.read_faults input) (new.read_faults input) → ⊥
  pub code_reads : Rose (old.read_faults code) (new.read_faults code) → ⊥
  pub prints : Rose old.print_faults new.print_faults → ⊥

-- code without a fault is judged for an accepted drawing, both within the limit, or memory ran out
abbrev pub IsReplayComplete : Status → List ℕ → List ℕ → Type 0
IsReplayComplete status file code =
    AreShort file code → IsAccepted file → code_refusal_of code ≡ None → (status ≡ Done) ⊎ ((verdict : Verdict) × (status ≡ Unsound verdict)) ⊎ (status ≡ Memory)

-- what was printed of the line of sound code
abbrev pub ReplayOutputIs : Status → List ℕ → List ℕ → Outside → Outside → Type 0
ReplayOutputIs Done file code old new = (pierces : ℕ) × IsJudged file code (Sound pierces) × (new.printed ≡ print_more old.printed (sound_text pierces))
ReplayOutputIs PrintFault file code old new = (pierces : ℕ) × IsJudged file code (Sound pierces) × IsPartlyPrinted old.printed new.printed (sound_text pierces)
ReplayOutputIs status file code old new = ⊤

-- the code is sound for the edges of the drawing, and what was printed tells how often it lights the torch
pub record IsFoundSound (file code : List ℕ) (old new : Outside) : Type 0 where
  pub edges : List Edge
  pub are_edges : AreEdgesOf (segments_of file) edges
  pub sound : IsSoundCode edges (places_of (names_of file)) (moves_of code)
  pub pierces : ℕ
  pub are_pierces : HasCount (λ (m : Move). IsTrue m.fresh) (moves_of code) pierces
  pub printed : new.printed ≡ print_more old.printed (sound_text pierces)

-- the code isn't sound for the edges of the drawing
pub record IsFoundUnsound (file code : List ℕ) : Type 0 where
  pub edges : List Edge
  pub are_edges : AreEdgesOf (segments_of file) edges
  pub unsound : IsSoundCode edges (places_of (names_of file)) (moves_of code) → ⊥
