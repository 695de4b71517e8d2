-- The replay of code that the planner wrote.
use Rattle.std.specs.Prelude.{◌≡◌, ℕ, ◌<◌, ◌^◌, List, ◌++◌, Contains, codes, decimal}
use Rattle.nest_base.specs.declared.places.Edge.{Edge}
use Rattle.nest_base.specs.Lines.{parts_of}
use Rattle.code_moves.specs.Meaning.{moves_of}
use Rattle.dxf_drawing.specs.Drawings.{names_of}
use Rattle.part_scrap.specs.Naming.{places_of}
use Rattle.replay_check.specs.Verdicts.{IsVerdict}
use Rattle.replay_check.specs.declared.verdict.Verdict.{Verdict}
use Rattle.replay_check.specs.declared.verdict.Verdict.TheVariants.{Sound}
use Rattle.nest_commands.specs.Outputs.{IsDrawingOf, IsOutput}

-- the line of these totals
abbrev pub totals_line : ℕ → ℕ → List ℕ
totals_line pierces bound = codes "total pierces " ++ decimal pierces ++ codes " bound " ++ decimal bound

-- a line of the report tells that so many pierces are taken in all
abbrev pub TellsTotal : List ℕ → ℕ → Type 0
TellsTotal report pierces = (bound : ℕ) × Contains (parts_of report) (totals_line pierces bound)

-- a replay of the code that was written for a drawing, over the same drawing, judges it sound, with the pierces that the report tells
abbrev pub WrittenCodeReplaysSound : Type 0
WrittenCodeReplaysSound =
    (file code report : List ℕ) (edges : List Edge) (verdict : Verdict) → IsOutput file code report → IsDrawingOf file edges →
    IsVerdict edges (places_of (names_of file)) (moves_of code) verdict →
    (pierces : ℕ) × (verdict ≡ Sound pierces) × TellsTotal report pierces

-- and it tells no other number, as far as numbers have a text of their own
abbrev pub WrittenReportTellsOneTotal : Type 0
WrittenReportTellsOneTotal =
    (file code report : List ℕ) (m n : ℕ) → IsOutput file code report → m < 2 ^ 64 → n < 2 ^ 64 → TellsTotal report m → TellsTotal report n → m ≡ n
