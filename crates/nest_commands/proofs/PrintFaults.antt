-- What stands after a report that couldn't be printed.
use Rattle.std.proofs.Common.{◌≡◌, true, false, ℕ, List, sym, ap, subst, ◌∙◌}
use Rattle.std.specs.Prelude.{Result, Some, None, OnOk, OnErr, is_err}
use Rattle.std.specs.declared.result.Result.TheVariants.{Ok, Err}
use Rattle.std.proofs.lemmas.Bool.{true≢false}
use Rattle.cut_desk.specs.Outside.{Outside, Told, WhereTold, IsTold, SameFiles, SameHeld, SameOthers, IsPartlyPrinted, made_of}
use Rattle.nest_commands.specs.Outputs.{IsOutput}
use Rattle.nest_commands.specs.Statuses.{OutputIs}
use Rattle.nest_commands.specs.declared.status.Status.TheVariants.{PrintFault}

-- what an answer that is no error promises
pub went_well : {X E : Type 0} (P : Type 0) (r : Result X E) → OnOk r P → is_err r ≡ false → P
went_well P (Ok x) p well = p
went_well P (Err e) p well = absurd (true≢false well)

-- what an error promises
pub failed : {X E : Type 0} (P : Type 0) (r : Result X E) → OnErr r P → is_err r ≡ true → P
failed P (Ok x) p bad = absurd (true≢false (sym bad))
failed P (Err e) p bad = p

-- after reading, writing the code and failing to print the report
pub output_after_print_fault : (told : Told) (bytes output code report : List ℕ) (old read written new : Outside) → IsTold told bytes → IsOutput bytes code report →
    SameFiles old read → written.held output ≡ made_of (read.held output) code → SameOthers output read written → SameHeld written new →
    IsPartlyPrinted written.printed new.printed report → WhereTold told (λ drawing. OutputIs PrintFault drawing output old new)
output_after_print_fault None bytes output code report old read written new is_told is same wrote others kept printed = tt
output_after_print_fault (Some None) bytes output code report old read written new is_told is same wrote others kept printed = tt
output_after_print_fault (Some (Some file)) bytes output code report old read written new is_told is same wrote others kept printed = (
  code,
  report,
  subst (λ b. IsOutput b code report) (sym is_told) is,
  kept output ∙ wrote ∙ ap (λ told. made_of told code) (same.files output),
  subst (λ p. IsPartlyPrinted p new.printed report) (others.printed ∙ same.printed) printed,
)
