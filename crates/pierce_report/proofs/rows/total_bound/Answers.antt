use Rattle.std.proofs.Common.{arith, rules}
use Rattle.std.proofs.lemmas.Option.{slice_get-get_or}
use Rattle.pierce_report.proofs.RowLists.{bound_more}
use Rattle.pierce_report.proofs.rows.total_bound.Goals as goal

pub loop-row-preserved : goal.loop-row-preserved
loop-row-preserved c =
    let rows = c.args.rows.now in
    let k = c.loop-row.row-index in
    let at = slice_get-get_or rows k (record { edges = 0; odd = 0; bound = 0; limit = 0; pierces = 0 }) c.loop-row-test.true in
    record {
      is_sum = omega (arith, c.loop-row.invariant.is_sum, bound_more rows k _ at);
      few = search rules;
    }
