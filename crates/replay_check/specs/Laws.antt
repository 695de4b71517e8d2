-- What verdicts say of soundness.
use Rattle.std.specs.Prelude.{◌≢◌, ℕ, List}
use Rattle.nest_base.specs.declared.places.Point.{Point}
use Rattle.nest_base.specs.declared.places.Edge.{Edge}
use Rattle.code_moves.specs.declared.moves.Move.{Move}
use Rattle.ngc_meaning.specs.CodeMoves.{EachFollows, before_the_code}
use Rattle.sound_code.specs.Sound.{IsSoundCode}
use Rattle.replay_check.specs.declared.verdict.Verdict.{Verdict}
use Rattle.replay_check.specs.declared.verdict.Verdict.TheVariants.{Sound}
use Rattle.replay_check.specs.Verdicts.{IsVerdict}

-- a verdict tells a fault
abbrev pub TellsFault : Verdict → Type 0
TellsFault verdict = (pierces : ℕ) → verdict ≢ Sound pierces

-- moves that follow one another, with such a verdict, aren't sound: so they are sound exactly where the verdict says it
abbrev pub FaultyCodeIsUnsound : Type 0
FaultyCodeIsUnsound =
    (edges : List Edge) (names : List Point) (moves : List Move) (verdict : Verdict) → EachFollows before_the_code moves → IsVerdict edges names moves verdict → TellsFault verdict → IsSoundCode edges names moves → ⊥
