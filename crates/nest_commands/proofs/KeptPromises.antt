-- What a run that ends well has done, where no vertex of the drawing is odd.
use Rattle.std.proofs.Common.{◌≡◌, ℕ, List, subst}
use Rattle.std.specs.Prelude.{Some, None}
use Rattle.cut_desk.specs.Outside.{Outside, Told, WhereTold}
use Rattle.nest_commands.specs.Statuses.{OutputIs, KeepsFewestWhereEven}
use Rattle.nest_commands.specs.declared.status.Status.{Status}
use Rattle.nest_commands.specs.declared.status.Status.TheVariants.{Done}

keeps_of_output : (drawing output : List ℕ) (old new : Outside) → OutputIs Done drawing output old new → KeepsFewestWhereEven drawing output old new
keeps_of_output drawing output old new (code, report, is, written, printed) = (
  record { accepted = is.drawing.cuts.read; code = code; written = written; has_no_fault = is.has_no_fault; report = report; printed = printed; promise = is.promise },
  is.even,
)

pub keeps_fewest_where_even : (status : Status) (output : List ℕ) (old new : Outside) (told : Told) → WhereTold told (λ drawing. OutputIs status drawing output old new) →
    status ≡ Done → WhereTold told (λ drawing. KeepsFewestWhereEven drawing output old new)
keeps_fewest_where_even status output old new None is done = tt
keeps_fewest_where_even status output old new (Some None) is done = tt
keeps_fewest_where_even status output old new (Some (Some drawing)) is done =
    keeps_of_output drawing output old new (subst (λ s. OutputIs s drawing output old new) done is)
