-- What is read of a drawing, and why one gives no output.
use Rattle.std.specs.Prelude.{◌≡◌, ◌≢◌, ◌≤◌, ℕ, List, ⊤, All, Some, None, length}
use Rattle.nest_base.specs.declared.places.Segment.{Segment}
use Rattle.nest_base.specs.declared.places.Edge.{Edge}
use Rattle.nest_base.specs.declared.drawing.Name.{Name}
use Rattle.nest_base.specs.Drawing.{Lists}
use Rattle.nest_base.specs.Limits.{most_segments, most_names}
use Rattle.nest_base.specs.Range.{IsWithin, IsSegmentWithin, range}
use Rattle.plate_edges.specs.Cuts.{HasLength}
use Rattle.dxf_drawing.specs.Drawings.{segments_of, names_of, read_refusal_of}
use Rattle.segment_split.specs.Splits.{IsSplitRefusal}
use Rattle.segment_split.specs.declared.splitting.SplitError.TheVariants.{OutOfMemory as NoMemory}
use Rattle.part_scrap.specs.Refusals.{IsPartRefusal}
use Rattle.part_scrap.specs.declared.error.PartError.TheVariants.{OutOfMemory as NoRoom}
use Rattle.code_moves.specs.declared.faults.CodeError.{CodeError}
use Rattle.code_moves.specs.declared.faults.CodeError.TheVariants.{OutOfMemory as NoSpace}
use Rattle.code_moves.specs.Meaning.{code_refusal_of}
use Rattle.nest_commands.specs.declared.output.PlanError.{PlanError}
use Rattle.nest_commands.specs.declared.output.PlanError.TheVariants.{Refused, OutOfMemory}
use Rattle.nest_commands.specs.declared.judging.ReplayError.{ReplayError}
use Rattle.nest_commands.specs.declared.judging.ReplayError.TheVariants.{Refused as DrawingRefused, Code, OutOfMemory as OutOfRoom}
use Rattle.nest_commands.specs.declared.status.Refusal.TheVariants.{Splitting, Naming}
use Rattle.nest_commands.specs.Outputs.{IsAccepted}
use Rattle.nest_commands.specs.Statuses.{IsRefused}

-- the file can be read, and holds these segments and names
pub record IsReadFrom (file : List ℕ) (drawing : Lists) : Type 0 where
  pub accepted : read_refusal_of file ≡ None
  pub segments : drawing.segments ≡ segments_of file
  pub names : drawing.names ≡ names_of file
  pub few_segments : length drawing.segments ≤ most_segments
  pub few_names : length drawing.names ≤ most_names
  pub lengths : All HasLength drawing.segments
  pub segments_within : All (IsSegmentWithin range) drawing.segments
  pub names_within : All (λ (n : Name). IsWithin range n.at) drawing.names

-- each reason holds of the drawing, but for want of memory
abbrev pub IsReason : PlanError → List ℕ → Type 0
IsReason (Refused refusal) file = IsRefused file refusal
IsReason OutOfMemory file = ⊤

-- a reason that holds of these segments
abbrev pub IsSplittingReason : List Segment → PlanError → Type 0
IsSplittingReason segments (Refused (Splitting e)) = IsSplitRefusal e segments × (e ≢ NoMemory)
IsSplittingReason segments (Refused refusal) = ⊥
IsSplittingReason segments OutOfMemory = ⊤

-- a reason that holds of these names over these edges
abbrev pub IsNamingReason : List Edge → List Name → PlanError → Type 0
IsNamingReason edges names (Refused (Naming e)) = IsPartRefusal edges names e × (e ≢ NoRoom)
IsNamingReason edges names (Refused refusal) = ⊥
IsNamingReason edges names OutOfMemory = ⊤

-- why a drawing isn't planned, as a reason why code isn't judged for it
abbrev pub replay_error_of : PlanError → ReplayError
replay_error_of (Refused refusal) = DrawingRefused refusal
replay_error_of OutOfMemory = OutOfRoom

-- the first fault of code
abbrev pub IsCodeFault : List ℕ → CodeError → Type 0
IsCodeFault code fault = (code_refusal_of code ≡ Some fault) × (fault ≢ NoSpace)

-- a reason that holds of this code
abbrev pub IsCodeReason : List ℕ → ReplayError → Type 0
IsCodeReason code (DrawingRefused refusal) = ⊥
IsCodeReason code (Code fault) = IsCodeFault code fault
IsCodeReason code OutOfRoom = ⊤

-- each reason why code isn't judged holds, but for want of memory
abbrev pub IsReplayReason : List ℕ → List ℕ → ReplayError → Type 0
IsReplayReason file code (DrawingRefused refusal) = IsRefused file refusal
IsReplayReason file code (Code fault) = IsAccepted file × IsCodeFault code fault
IsReplayReason file code OutOfRoom = ⊤
