-- A verdict on sound code says so, with the number of its fresh moves.
use Rattle.std.proofs.Common.{◌≡◌, ℕ, List, refl}
use Rattle.std.specs.Prelude.{IsTrue}
use Rattle.nest_base.specs.declared.places.Point.{Point}
use Rattle.nest_base.specs.declared.places.Edge.{Edge}
use Rattle.nest_base.specs.Selection.{HasCount}
use Rattle.code_moves.specs.declared.moves.Move.{Move}
use Rattle.ngc_meaning.specs.CodeMoves.{EachFollows, before_the_code}
use Rattle.sound_code.specs.Sound.{IsSoundCode}
use Rattle.replay_check.specs.declared.verdict.Verdict.{Verdict}
use Rattle.replay_check.specs.declared.verdict.Verdict.TheVariants.{Sound, OffDrawing, PartEdge, Twice, BadLead, Missed, Detached}
use Rattle.replay_check.specs.Laws.{TellsFault}
use Rattle.replay_check.specs.Verdicts.{IsVerdict}
use Rattle.replay_check.proofs.Faults.{unsound}

-- the verdict is that they are sound, with their number of fresh moves
abbrev pub TellsSound : List Move → Verdict → Type 0
TellsSound moves verdict = (pierces : ℕ) × (verdict ≡ Sound pierces) × HasCount (λ (m : Move). IsTrue m.fresh) moves pierces

module _ (edges : List Edge) (names : List Point) (moves : List Move) (follows : EachFollows before_the_code moves) (sound : IsSoundCode edges names moves) where
  tells_no_fault : (verdict : Verdict) → IsVerdict edges names moves verdict → TellsFault verdict → TellsSound moves verdict
  tells_no_fault verdict is faulty = absurd (unsound edges names moves verdict follows is faulty sound)

  pub tells_sound : (verdict : Verdict) → IsVerdict edges names moves verdict → TellsSound moves verdict
  tells_sound (Sound pierces) is = (pierces, refl, is.1)
  tells_sound (OffDrawing line) is = tells_no_fault (OffDrawing line) is (λ pierces e. absurd (cc))
  tells_sound (PartEdge line) is = tells_no_fault (PartEdge line) is (λ pierces e. absurd (cc))
  tells_sound (Twice line) is = tells_no_fault (Twice line) is (λ pierces e. absurd (cc))
  tells_sound (BadLead line) is = tells_no_fault (BadLead line) is (λ pierces e. absurd (cc))
  tells_sound (Missed low high) is = tells_no_fault (Missed low high) is (λ pierces e. absurd (cc))
  tells_sound (Detached line) is = tells_no_fault (Detached line) is (λ pierces e. absurd (cc))
