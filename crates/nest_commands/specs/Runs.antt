-- How a process ends that runs these words.
use Rattle.std.specs.Prelude.{◌≡◌, ◌↔◌, ◌⊎◌, ℕ, List, Some, None, IfSome, IfNone}
use Rattle.cut_desk.specs.Outside.{Outside, SameHeld, WhereTold}
use Rattle.replay_check.specs.declared.verdict.Verdict.{Verdict}
use Rattle.nest_commands.specs.Words.{FileNames, CodeNames, plan_of, replay_of}
use Rattle.nest_commands.specs.Statuses.{exit_code_of, IsDecided, HasCause, NoFaultRose, IsComplete, FilesAre, KeepsPromise, KeepsFewestWhereEven, RefusesForNoMemory, OutputIs, PrintsLine}
use Rattle.nest_commands.specs.Replays.{WhereBothTold, IsReplayDecided, IsDrawingDecided, IsUnread, HasReplayCause, NoReplayFaultRose, IsReplayComplete, IsFoundSound, IsFoundUnsound, ReplayOutputIs}
use Rattle.nest_commands.specs.declared.status.Status.{Status}
use Rattle.nest_commands.specs.declared.status.Status.TheVariants.{Words, ReadFault, Done, Unsound, Memory}

-- all that `run` promises of its words and its answer, clause by clause
pub record RunsAs (words : List (List ℕ)) (status : Status) (old new : Outside) : Type 0 where
  pub words_told : (status ≡ Words) ↔ ((plan_of words ≡ None) × (replay_of words ≡ None))
  pub decided : IfSome (plan_of words) (λ (f : FileNames). WhereTold (old.held f.input) (IsDecided status))
  pub absent : IfSome (plan_of words) (λ (f : FileNames). old.held f.input ≡ Some None → status ≡ ReadFault)
  pub cause : IfSome (plan_of words) (λ (f : FileNames). HasCause status f.input f.output old new)
  pub complete : IfSome (plan_of words) (λ (f : FileNames). NoFaultRose f.input f.output old new → WhereTold (old.held f.input) (IsComplete status))
  pub refusal : RefusesForNoMemory status
  pub headline : IfSome (plan_of words) (λ (f : FileNames). status ≡ Done → WhereTold (old.held f.input) (λ drawing. KeepsPromise drawing f.output old new))
  pub even : IfSome (plan_of words) (λ (f : FileNames). status ≡ Done → WhereTold (old.held f.input) (λ drawing. KeepsFewestWhereEven drawing f.output old new))
  pub output : IfSome (plan_of words) (λ (f : FileNames). WhereTold (old.held f.input) (λ drawing. OutputIs status drawing f.output old new))
  pub files : IfSome (plan_of words) (λ (f : FileNames). FilesAre status f.output old new)
  pub replay_decided : IfSome (replay_of words) (λ (f : CodeNames). WhereBothTold (old.held f.input) (old.held f.code) (IsReplayDecided status))
  pub replay_drawing : IfSome (replay_of words) (λ (f : CodeNames). WhereTold (old.held f.input) (IsDrawingDecided status))
  pub replay_absent : IfSome (replay_of words) (λ (f : CodeNames). old.held f.input ≡ Some None → status ≡ ReadFault)
  pub replay_no_code : IfSome (replay_of words) (λ (f : CodeNames). old.held f.code ≡ Some None → WhereTold (old.held f.input) (IsUnread status))
  pub replay_cause : IfSome (replay_of words) (λ (f : CodeNames). HasReplayCause status f.input f.code old new)
  pub replay_complete : IfSome (replay_of words) (λ (f : CodeNames). NoReplayFaultRose f.input f.code old new →
      WhereBothTold (old.held f.input) (old.held f.code) (IsReplayComplete status))
  pub replay_sound : IfSome (replay_of words) (λ (f : CodeNames). status ≡ Done →
      WhereBothTold (old.held f.input) (old.held f.code) (λ drawing code. IsFoundSound drawing code old new))
  pub replay_unsound : IfSome (replay_of words) (λ (f : CodeNames). (verdict : Verdict) → status ≡ Unsound verdict →
      WhereBothTold (old.held f.input) (old.held f.code) IsFoundUnsound)
  pub replay_output : IfSome (replay_of words) (λ (f : CodeNames).
      WhereBothTold (old.held f.input) (old.held f.code) (λ drawing code. ReplayOutputIs status drawing code old new))
  pub replay_files : IfSome (replay_of words) (λ (f : CodeNames). SameHeld old new)
  pub no_files : IfNone (plan_of words) (IfNone (replay_of words) (SameHeld old new))
  pub line : PrintsLine status old new

-- the words ran, once, and the process ends with the code of the status; or there was no memory for them, and nothing was done
abbrev pub EndsAs : List (List ℕ) → ℕ → Outside → Outside → Type 0
EndsAs words code old new =
    (status : Status) × (code ≡ exit_code_of status) × (RunsAs words status old new ⊎ ((status ≡ Memory) × (new ≡ old)))
