use Rattle.std.proofs.Common.{◌≡◌, map, take}
use Rattle.std.specs.List.{AllZip}
use Rattle.pierce_report.specs.declared.rows.Numbers.{Numbers}
use Rattle.pierce_report.specs.Report.{IsRowOf}
use Rattle.pierce_report.specs.Rows.{row_of}
use Rattle.pierce_report.proofs.rows.all_numbers.Given as goal

abbrev pub invariant-loop-c : goal.invariant-loop-c
invariant-loop-c l = record {
  rows : AllZip (λ mark (n : Numbers). IsRowOf l.graph.edges mark (row_of n)) (take l.c l.graph.marks) l.rows.items;
  pierces : map (λ (n : Numbers). n.pierces) l.rows.items ≡ take l.c l.pierces;
}
