use Rattle.std.proofs.Common.{◌≡◌, ◌≤◌, ◌*◌, ◌^◌, take}
use Rattle.pierce_report.specs.Report.{total_bound}
use Rattle.pierce_report.specs.Rows.{rows_of}
use Rattle.pierce_report.proofs.rows.total_bound.Given as goal

abbrev pub invariant-loop-row : goal.invariant-loop-row
invariant-loop-row l = record {
  is_sum : l.total ≡ total_bound (rows_of (take l.row-index l.rows));
  few : l.total ≤ l.row-index * 2 ^ 32;
}
