-- What is known of a run that judged code.
use Rattle.std.proofs.Common.{arith, ◌≡◌, ◌≢◌, ◌≤◌, inl, inr, ℕ, List, length, refl, sym, subst, ◌∙◌}
use Rattle.std.specs.Prelude.{Some, None}
use Rattle.nest_base.specs.Limits.{most_bytes}
use Rattle.std.proofs.lemmas.Option.{none-some}
use Rattle.cut_desk.specs.Outside.{Outside, Told, WhereTold, IsTold, SameFiles, Later, IsPartlyPrinted}
use Rattle.part_scrap.specs.Naming.{places_of}
use Rattle.dxf_drawing.specs.Drawings.{names_of}
use Rattle.code_moves.specs.Meaning.{moves_of}
use Rattle.ngc_meaning.proofs.InOrder.{in_order}
use Rattle.replay_check.proofs.Faults.{unsound}
use Rattle.nest_commands.proofs.Completeness.{refused_not_accepted, rose_later}
use Rattle.nest_commands.specs.FaultText.{sound_text}
use Rattle.nest_commands.specs.Outputs.{IsAccepted}
use Rattle.nest_commands.specs.Replays.{WhereBothTold, IsJudged, IsReplayDecided, HasReplayCause, NoReplayFaultRose, IsReplayComplete, IsFoundUnsound, ReplayOutputIs}
use Rattle.nest_commands.specs.declared.status.Status.{Status}
use Rattle.nest_commands.specs.declared.status.Status.TheVariants.{Done, Words, ReadFault, TooLong, Drawing, WriteFault, PrintFault, Memory, Code, Unsound}
use Rattle.replay_check.specs.declared.verdict.Verdict.{Verdict}
use Rattle.replay_check.specs.declared.verdict.Verdict.TheVariants.{Sound}
use Rattle.replay_check.specs.Laws.{TellsFault}

-- what holds of the bytes that were read holds where these are told
pub where_told : (told : Told) (bytes : List ℕ) (P : List ℕ → Type 0) → IsTold told bytes → P bytes → WhereTold told P
where_told None bytes P is holds = tt
where_told (Some None) bytes P is holds = tt
where_told (Some (Some file)) bytes P is holds = subst P (sym is) holds

pub where_both_told : (input code : Told) (file bytes : List ℕ) (P : List ℕ → List ℕ → Type 0) → IsTold input file → IsTold code bytes → P file bytes → WhereBothTold input code P
where_both_told input code file bytes P is also holds = where_told input file (λ f. WhereTold code (P f)) is (where_told code bytes (P file) also holds)

-- the code was told before the drawing was read as it was afterwards
pub told_before : (name bytes : List ℕ) (old read : Outside) → SameFiles old read → IsTold (read.held name) bytes → IsTold (old.held name) bytes
told_before name bytes old read same is = subst (λ told. IsTold told bytes) (same.files name) is

pub decided_unsound : (file code : List ℕ) (verdict : Verdict) → length file ≤ most_bytes → length code ≤ most_bytes → IsJudged file code verdict → TellsFault verdict →
    IsReplayDecided (Unsound verdict) file code
decided_unsound file code verdict short also judged tells = ((short, also), judged, tells)

-- sound code whose line was printed in part
pub output_after_print_fault : (file code : List ℕ) (pierces : ℕ) (old read again new : Outside) → IsJudged file code (Sound pierces) → SameFiles old read → SameFiles read again →
    IsPartlyPrinted again.printed new.printed (sound_text pierces) → ReplayOutputIs PrintFault file code old new
output_after_print_fault file code pierces old read again new judged same also printed =
    (pierces, judged, subst (λ p. IsPartlyPrinted p new.printed (sound_text pierces)) (also.printed ∙ same.printed) printed)

-- the same of slices that are the bytes
pub judged_of : (given file given_code code : List ℕ) (verdict : Verdict) → given ≡ file → given_code ≡ code → IsJudged given given_code verdict → IsJudged file code verdict
judged_of given file given_code code verdict same also judged = subst (λ f. IsJudged f code verdict) same (subst (λ c. IsJudged given c verdict) also judged)

where_both_map : (input code : Told) (P Q : List ℕ → List ℕ → Type 0) → ((file bytes : List ℕ) → P file bytes → Q file bytes) → WhereBothTold input code P → WhereBothTold input code Q
where_both_map None code P Q f holds = tt
where_both_map (Some None) code P Q f holds = tt
where_both_map (Some (Some file)) None P Q f holds = tt
where_both_map (Some (Some file)) (Some None) P Q f holds = tt
where_both_map (Some (Some file)) (Some (Some bytes)) P Q f holds = f file bytes holds

-- what each status says of code without a fault for an accepted drawing
by_status : (status : Status) (input code : List ℕ) (old now new : Outside) (file bytes : List ℕ) → status ≢ Words → HasReplayCause status input code old now → Later now new →
    NoReplayFaultRose input code old new → IsReplayDecided status file bytes → IsReplayComplete status file bytes
by_status Done input code old now new file bytes command cause later none decided short accepted written = inl refl
by_status Words input code old now new file bytes command cause later none decided short accepted written = absurd (command refl)
by_status ReadFault input code old now new file bytes command (inl rose) later none decided short accepted written =
    absurd (none.reads (rose_later (old.read_faults input) (now.read_faults input) (new.read_faults input) rose (later.reads input)))
by_status ReadFault input code old now new file bytes command (inr rose) later none decided short accepted written =
    absurd (none.code_reads (rose_later (old.read_faults code) (now.read_faults code) (new.read_faults code) rose (later.reads code)))
by_status TooLong input code old now new file bytes command cause later none (inl long) short accepted written = absurd (omega (arith, long, short.0))
by_status TooLong input code old now new file bytes command cause later none (inr long) short accepted written = absurd (omega (arith, long, short.1))
by_status (Drawing refusal) input code old now new file bytes command cause later none decided short accepted written = absurd (refused_not_accepted file refusal decided.1 accepted)
by_status WriteFault input code old now new file bytes command cause later none decided short accepted written = absurd cause
by_status PrintFault input code old now new file bytes command cause later none decided short accepted written =
    absurd (none.prints (rose_later old.print_faults now.print_faults new.print_faults cause later.prints))
by_status Memory input code old now new file bytes command cause later none decided short accepted written = inr (inr refl)
by_status (Code fault) input code old now new file bytes command cause later none decided short accepted written = absurd (none-some fault (sym written ∙ decided.2))
by_status (Unsound verdict) input code old now new file bytes command cause later none decided short accepted written = inr (inl (verdict, refl))

pub complete : (status : Status) (input code : List ℕ) (old now new : Outside) (told also : Told) → status ≢ Words → WhereBothTold told also (IsReplayDecided status) →
    HasReplayCause status input code old now → Later now new → NoReplayFaultRose input code old new → WhereBothTold told also (IsReplayComplete status)
complete status input code old now new told also command decided cause later none =
    where_both_map told also (IsReplayDecided status) (IsReplayComplete status) (λ file bytes is. by_status status input code old now new file bytes command cause later none is) decided

-- code that is called unsound isn't sound
unsound_of : (file code : List ℕ) (verdict : Verdict) → IsReplayDecided (Unsound verdict) file code → IsFoundUnsound file code
unsound_of file code verdict (short, judged, tells) = record {
  edges = judged.edges;
  are_edges = judged.drawing.cuts.split.are_edges;
  unsound = unsound judged.edges (places_of (names_of file)) (moves_of code) verdict (in_order code) judged.judged tells;
}

pub found_unsound : (status : Status) (told also : Told) → WhereBothTold told also (IsReplayDecided status) → (verdict : Verdict) → status ≡ Unsound verdict → WhereBothTold told also IsFoundUnsound
found_unsound status told also decided verdict is =
    where_both_map told also (IsReplayDecided (Unsound verdict)) IsFoundUnsound (λ file code holds. unsound_of file code verdict holds) (subst (λ s. WhereBothTold told also (IsReplayDecided s)) is decided)

-- a drawing for which code is judged is accepted
pub accepted_of : (file code : List ℕ) (verdict : Verdict) → IsJudged file code verdict → IsAccepted file
accepted_of file code verdict judged = (judged.edges, judged.drawing)
