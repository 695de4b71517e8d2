use Rattle.nest_base.proofs.ListReads.{read-map}
use Rattle.std.proofs.lemmas.Option.{slice_get-get_or}
use Rattle.pierce_report.specs.Rows.{row_of, rows_of}
use Rattle.pierce_report.proofs.RowLines.{next_row}
use Rattle.pierce_report.proofs.text.put_rows.Goals as goal

pub loop-k-preserved : goal.loop-k-preserved
loop-k-preserved c =
    let rows = c.args.rows.now in
    next_row (rows_of rows) c.loop-k.k _ c.args.out.now c.loop-k.out c.put_row.new.out
    (read-map row_of rows c.loop-k.k _ (slice_get-get_or rows c.loop-k.k _ c.loop-k-test.true)) c.loop-k.invariant c.in_ok-put_row.ensures
