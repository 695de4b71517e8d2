-- The lines that are printed for refusals and for verdicts.
use Rattle.std.specs.Prelude.{ℕ, List, ◌++◌, codes, decimal}
use Rattle.std.specs.Fmt.{signed_decimal}
use Rattle.micron_decimals.specs.Decimals.{micron_text}
use Rattle.pierce_report.specs.Shown.{shown}
use Rattle.dxf_groups.specs.declared.answers.GroupError.{GroupError}
use Rattle.dxf_groups.specs.declared.answers.GroupError.TheVariants.{Binary, BadCode, LineTooLong, Truncated}
use Rattle.dxf_entities.specs.declared.error.Kind.{Kind}
use Rattle.dxf_entities.specs.declared.error.Kind.TheVariants.{Entity, Flags, Bulge, Extrusion}
use Rattle.dxf_entities.specs.declared.error.DrawingError.{DrawingError}
use Rattle.dxf_entities.specs.declared.error.DrawingError.TheVariants.{Groups, NotANumber, TooFar, Missing, Unsupported, TooMany, Nothing, OutOfMemory}
use Rattle.segment_split.specs.declared.splitting.SplitError.{SplitError}
use Rattle.segment_split.specs.declared.splitting.SplitError.TheVariants.{Crossing, TooManyPieces, OutOfMemory as NoMemory}
use Rattle.code_moves.specs.declared.faults.CodeError.{CodeError}
use Rattle.code_moves.specs.declared.faults.CodeError.TheVariants.{BadLine, UnknownWord, TooFar as PlaceTooFar, NoEnd, OutOfMemory as NoSpace}
use Rattle.replay_check.specs.declared.verdict.Verdict.{Verdict}
use Rattle.replay_check.specs.declared.verdict.Verdict.TheVariants.{Sound, OffDrawing, PartEdge, Twice, BadLead, Missed, Detached}
use Rattle.part_scrap.specs.declared.error.PartError.{PartError}
use Rattle.part_scrap.specs.declared.error.PartError.TheVariants.{OnLine, NamesOuter, TwoNames, OutOfMemory as NoRoom}

-- a cause at a line, as `refused E5 line 7 not a number`
abbrev pub at_line : List ℕ → ℕ → List ℕ → List ℕ
at_line refused line why = refused ++ codes " line " ++ decimal line ++ codes " " ++ why

-- what is printed for a file whose lines aren't pairs
abbrev pub group_text : GroupError → List ℕ
group_text Binary = codes "refused E1 binary DXF"
group_text (BadCode line) = at_line (codes "refused E2") line (codes "no group code")
group_text (LineTooLong line) = at_line (codes "refused E3") line (codes "longer than 4096 bytes")
group_text (Truncated line) = at_line (codes "refused E4") line (codes "missing")

-- what is printed of an entity that isn't planned
abbrev pub kind_text : Kind → List ℕ
kind_text (Entity label) = shown label
kind_text (Flags flags) = codes "POLYLINE flags " ++ signed_decimal flags
kind_text Bulge = codes "bulge"
kind_text Extrusion = codes "extrusion"

-- what is printed for a drawing that can't be read, without the end of the line
abbrev pub reading_text : DrawingError → List ℕ
reading_text (Groups e) = group_text e
reading_text (NotANumber line) = at_line (codes "refused E5") line (codes "not a number")
reading_text (TooFar line) = at_line (codes "refused E6") line (codes "beyond the range")
reading_text (Missing line code) = at_line (codes "refused E7") line (codes "lacks group " ++ signed_decimal code)
reading_text (Unsupported line kind) = at_line (codes "refused E8") line (kind_text kind)
reading_text (TooMany line) = at_line (codes "refused E9") line (codes "too many")
reading_text Nothing = codes "refused E10 nothing to cut"
reading_text OutOfMemory = codes "out of memory"

-- what is printed for a drawing that isn't split, without the end of the line
abbrev pub splitting_text : SplitError → List ℕ
splitting_text (Crossing first second place) =
    codes "refused E11 segments " ++ decimal first ++ codes " and " ++ decimal second ++ codes " cross off the lattice near " ++ micron_text place.x ++ codes " " ++ micron_text place.y
splitting_text TooManyPieces = codes "refused E12 more than 2000000 pieces"
splitting_text NoMemory = codes "out of memory"

-- what is printed for names that don't name parts, without the end of the line
abbrev pub naming_text : PartError → List ℕ
naming_text (OnLine line) = at_line (codes "refused E13") line (codes "name on a line")
naming_text (NamesOuter line) = at_line (codes "refused E14") line (codes "name outside every part")
naming_text (TwoNames first second) = codes "refused E15 lines " ++ decimal first ++ codes " and " ++ decimal second ++ codes " name one face"
naming_text NoRoom = codes "out of memory"

-- what is printed for code that can't be read, without the end of the line
abbrev pub code_fault_text : CodeError → List ℕ
code_fault_text (BadLine line) = at_line (codes "code") line (codes "bad line")
code_fault_text (UnknownWord line) = at_line (codes "code") line (codes "unknown word")
code_fault_text (PlaceTooFar line) = at_line (codes "code") line (codes "beyond the range")
code_fault_text (NoEnd line) = at_line (codes "code") line (codes "end missing")
code_fault_text NoSpace = codes "out of memory"

-- what is printed for a verdict, without the end of the line
abbrev pub judged_text : Verdict → List ℕ
judged_text (Sound pierces) = codes "sound pierces " ++ decimal pierces
judged_text (OffDrawing line) = at_line (codes "unsound") line (codes "off the drawing")
judged_text (PartEdge line) = at_line (codes "unsound") line (codes "not one whole edge")
judged_text (Twice line) = at_line (codes "unsound") line (codes "edge burnt twice")
judged_text (BadLead line) = at_line (codes "unsound") line (codes "lead-in not free")
judged_text (Missed low high) =
    codes "unsound edge " ++ micron_text low.x ++ codes " " ++ micron_text low.y ++ codes " to " ++ micron_text high.x ++ codes " " ++ micron_text high.y ++ codes " not burnt"
judged_text (Detached line) = at_line (codes "unsound") line (codes "detached")

-- the line of sound code
abbrev pub sound_text : ℕ → List ℕ
sound_text pierces = judged_text (Sound pierces) ++ codes "\n"
