-- Code that is judged for a drawing, and why some isn't.
use Rattle.std.proofs.Common.{◌≡◌, ℕ, List, subst}
use Rattle.std.specs.Prelude.{None}
use Rattle.nest_base.specs.declared.places.Edge.{Edge}
use Rattle.nest_base.specs.declared.drawing.Name.{Name}
use Rattle.plate_parts.specs.Parts.{AreDistinct}
use Rattle.part_scrap.specs.Naming.{places_of}
use Rattle.dxf_drawing.specs.Drawings.{names_of}
use Rattle.code_moves.specs.declared.moves.Move.{Move}
use Rattle.code_moves.specs.Meaning.{code_refusal_of, moves_of}
use Rattle.replay_check.specs.declared.verdict.Verdict.{Verdict}
use Rattle.replay_check.specs.Verdicts.{IsVerdict}
use Rattle.nest_commands.specs.Outputs.{AreCutsOf, IsDrawingOf, IsAccepted}
use Rattle.nest_commands.specs.Replays.{IsJudged}
use Rattle.nest_commands.specs.Reasons.{IsReason, IsCodeReason, IsReplayReason, replay_error_of}
use Rattle.nest_commands.specs.declared.output.PlanError.{PlanError}
use Rattle.nest_commands.specs.declared.output.PlanError.TheVariants.{Refused, OutOfMemory}
use Rattle.nest_commands.specs.declared.judging.ReplayError.{ReplayError}
use Rattle.nest_commands.specs.declared.judging.ReplayError.TheVariants.{Refused as DrawingRefused, Code, OutOfMemory as OutOfRoom}

-- the drawing is at fault
pub drawing_reason : (file code : List ℕ) (why : PlanError) → IsReason why file → IsReplayReason file code (replay_error_of why)
drawing_reason file code (Refused refusal) is = is
drawing_reason file code OutOfMemory is = tt

-- the drawing is accepted, and the code at fault
pub code_reason : (file code : List ℕ) (why : ReplayError) → IsAccepted file → IsCodeReason code why → IsReplayReason file code why
code_reason file code (DrawingRefused refusal) accepted is = absurd is
code_reason file code (Code fault) accepted is = (accepted, is)
code_reason file code OutOfRoom accepted is = tt

-- what was read, split and named is a drawing; `shown` are the edges as the graph has them
pub drawing_read : (file : List ℕ) (edges shown : List Edge) (names : List Name) → AreCutsOf file edges → shown ≡ edges → names ≡ names_of file → AreDistinct shown (places_of names) →
    IsDrawingOf file edges
drawing_read file edges shown names cuts same are distinct = record {
  cuts = cuts;
  named = subst (λ ns. AreDistinct edges (places_of ns)) are (subst (λ es. AreDistinct es (places_of names)) same distinct);
}

-- and the verdict on its graph is one on the drawing
pub judged_read : (file code : List ℕ) (edges shown : List Edge) (names : List Name) (moves : List Move) (verdict : Verdict) → IsDrawingOf file edges → shown ≡ edges → names ≡ names_of file →
    code_refusal_of code ≡ None → moves ≡ moves_of code → IsVerdict shown (places_of names) moves verdict → IsJudged file code verdict
judged_read file code edges shown names moves verdict drawing same are accepted moves_are is = record {
  edges = edges;
  drawing = drawing;
  accepted = accepted;
  judged = subst (λ ms. IsVerdict edges (places_of (names_of file)) ms verdict) moves_are
      (subst (λ ns. IsVerdict edges (places_of ns) moves verdict) are (subst (λ es. IsVerdict es (places_of names) moves verdict) same is));
}
