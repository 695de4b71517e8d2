use Rattle.std.proofs.Common.{◌≡◌, ◌++◌, take}
use Rattle.pierce_report.specs.Report.{rows_text}
use Rattle.pierce_report.specs.Rows.{rows_of}
use Rattle.pierce_report.proofs.text.put_rows.Given as goal

-- the lines of the components so far
abbrev pub invariant-loop-k : goal.invariant-loop-k
invariant-loop-k l = l.out ≡ l.fn.out ++ rows_text 1 (take l.k (rows_of l.rows))
