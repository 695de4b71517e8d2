-- The row of one component more.
use Rattle.std.proofs.Common.{arith, ◌<◌, ℕ, [], ◌∷◌, ◌++◌, length, take, refl, sym, ap, ◌∙◌}
use Rattle.std.proofs.lemmas.List.{map_push, take_more}
use Rattle.std.proofs.lemmas.Option.{slice_get_read}
use Rattle.nest_base.proofs.ListReads.{read_below}
use Rattle.face_nesting.proofs.Prefixes.{AllZip-one_more}
use Rattle.plate_sides.specs.OddCounts.{HasOddCount}
use Rattle.pierce_report.specs.declared.rows.Numbers.{Numbers}
use Rattle.pierce_report.specs.Report.{IsRowOf}
use Rattle.pierce_report.specs.Rows.{HasEdgeCount, row_of}
use Rattle.pierce_report.proofs.RowLists.{length_zip, zip_read}
use Rattle.pierce_report.proofs.rows.all_numbers.Goals as goal

pub index-requires : goal.index-requires
index-requires c =
    let graph = c.args.graph.now in
    omega (arith, c.in_ok-edges.edges.ok.0, length_zip (HasEdgeCount graph.edges) graph.marks c.in_ok-edges.edges.items c.in_ok-edges.ensures, c.component_count-c-end.ensures.count, c.loop-c-test.true)

pub index-requires-in-loop-c : goal.index-requires-in-loop-c
index-requires-in-loop-c c =
    let graph = c.args.graph.now in
    omega (arith, c.in_ok-odd.odd.ok.0, length_zip (HasOddCount graph.edges) graph.marks c.in_ok-odd.odd.items c.in_ok-odd.ensures, c.component_count-c-end.ensures.count, c.loop-c-test.true)

pub loop-c-preserved : goal.loop-c-preserved
loop-c-preserved c =
    let graph = c.args.graph.now in
    let k = c.loop-c.c in
    let edges = c.in_ok-edges.edges.items in
    let odd = c.in_ok-odd.odd.items in
    let rows = c.loop-c.rows.items in
    let numbers = c.numbers_of-numbers.result in
    let within : k < length graph.marks = omega (arith, c.component_count-c-end.ensures.count, c.loop-c-test.true) in
    let mark = read_below graph.marks k within in
    let some_edges = slice_get_read edges (length edges) k c.index.result.now refl (omega (arith, within, length_zip (HasEdgeCount graph.edges) graph.marks edges c.in_ok-edges.ensures)) c.index.ensures in
    let some_odd = slice_get_read odd (length odd) k c.index-in-loop-c.result.now refl (omega (arith, within, length_zip (HasOddCount graph.edges) graph.marks odd c.in_ok-odd.ensures)) c.index-in-loop-c.ensures in
    let row = c.numbers_of-numbers.ensures.row mark.0 mark.1 (zip_read (HasEdgeCount graph.edges) graph.marks edges k mark.0 c.index.result.now c.in_ok-edges.ensures mark.1 some_edges)
    (zip_read (HasOddCount graph.edges) graph.marks odd k mark.0 c.index-in-loop-c.result.now c.in_ok-odd.ensures mark.1 some_odd) in
    let pierces : Numbers → ℕ = λ n. n.pierces in
    let so_many = c.args.pierces.now in
    record {
      rows = rw c.in_ok-push.ensures.items (AllZip-one_more (λ mark (n : Numbers). IsRowOf graph.edges mark (row_of n)) graph.marks rows k mark.0 numbers mark.1 c.loop-c.invariant.rows row);
      pierces = rw c.in_ok-push.ensures.items (map_push pierces rows numbers ∙ ap (λ l. l ++ numbers.pierces ∷ []) c.loop-c.invariant.pierces ∙
          ap (λ m. take k so_many ++ m ∷ []) c.numbers_of-numbers.ensures.pierces ∙ sym (take_more so_many k 0 (omega (arith, within, c.requires.as_many))));
    }
