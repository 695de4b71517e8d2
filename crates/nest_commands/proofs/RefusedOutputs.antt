-- Why a drawing gives no output, from why a step of planning gives none.
use Rattle.std.proofs.Common.{◌≡◌, ℕ, List, subst}
use Rattle.nest_base.specs.declared.places.Edge.{Edge}
use Rattle.nest_base.specs.declared.drawing.Name.{Name}
use Rattle.nest_base.specs.Drawing.{Lists}
use Rattle.dxf_drawing.specs.Drawings.{names_of}
use Rattle.segment_split.specs.Splits.{IsSplitRefusal}
use Rattle.part_scrap.specs.Refusals.{IsPartRefusal}
use Rattle.nest_commands.specs.Outputs.{AreCutsOf}
use Rattle.nest_commands.specs.Reasons.{IsReadFrom, IsReason, IsSplittingReason, IsNamingReason}
use Rattle.nest_commands.specs.declared.output.PlanError.{PlanError}
use Rattle.nest_commands.specs.declared.output.PlanError.TheVariants.{Refused, OutOfMemory}
use Rattle.nest_commands.specs.declared.status.Refusal.TheVariants.{Reading, Splitting, Naming}

-- of its segments
pub splitting_reason : (file : List ℕ) (drawing : Lists) (why : PlanError) → IsReadFrom file drawing → IsSplittingReason drawing.segments why → IsReason why file
splitting_reason file drawing (Refused (Reading e)) read is = absurd is
splitting_reason file drawing (Refused (Splitting e)) read is = (read.accepted, subst (IsSplitRefusal e) read.segments is.0, is.1)
splitting_reason file drawing (Refused (Naming e)) read is = absurd is
splitting_reason file drawing OutOfMemory read is = tt

-- of its names; `shown` are the edges as the graph has them
pub naming_reason : (file : List ℕ) (edges shown : List Edge) (names : List Name) (why : PlanError) → AreCutsOf file edges → shown ≡ edges → names ≡ names_of file →
    IsNamingReason shown names why → IsReason why file
naming_reason file edges shown names (Refused (Reading e)) cuts same are is = absurd is
naming_reason file edges shown names (Refused (Splitting e)) cuts same are is = absurd is
naming_reason file edges shown names (Refused (Naming e)) cuts same are is =
    (edges, cuts, subst (λ ns. IsPartRefusal edges ns e) are (subst (λ es. IsPartRefusal es names e) same is.0), is.1)
naming_reason file edges shown names OutOfMemory cuts same are is = tt
