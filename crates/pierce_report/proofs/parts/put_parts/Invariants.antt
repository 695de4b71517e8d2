use Rattle.std.proofs.Common.{◌≡◌, ◌++◌, take}
use Rattle.std.specs.Prelude.{flat_map}
use Rattle.pierce_report.specs.Report.{part_text}
use Rattle.pierce_report.specs.Parts.{part_rows}
use Rattle.pierce_report.proofs.parts.put_parts.Given as goal

-- the lines of the parts so far
abbrev pub invariant-loop-i : goal.invariant-loop-i
invariant-loop-i l = l.out ≡ l.fn.out ++ flat_map part_text (take l.i (part_rows l.faces.ranks l.parts.faces l.names))
