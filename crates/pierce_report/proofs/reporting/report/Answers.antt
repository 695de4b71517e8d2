use Rattle.std.proofs.Common.{◌≡◌, ℕ, Bool, true, false, List, [], ◌∷◌, ◌++◌, append_assoc, length, refl, sym, ap, ◌∙◌, codes, decimal}
use Rattle.std.specs.Prelude.{flat_map, sum, ◌==◌, if◌then◌else◌}
use Rattle.plate_sides.specs.Cover.{HasTrailsIn}
use Rattle.oe_cover.specs.Trails.{trails_by}
use Rattle.pierce_report.specs.Report.{IsRowOf, rows_text, part_text, total_pierces, total_bound}
use Rattle.pierce_report.specs.Rows.{rows_of, totals_text, verdict_text}
use Rattle.pierce_report.proofs.RowLists.{length_zip, pierces_are, with_pierces}
use Rattle.pierce_report.specs.Parts.{part_rows}
use Rattle.pierce_report.proofs.PartFaces.{faces_of_names, faces_are_counted, parts_are}
use Rattle.pierce_report.proofs.reporting.report.Goals as goal

-- the last lines stand behind the others
regrouped : (lines parts a p b q v : List ℕ) →
    ((lines ++ parts) ++ (a ++ p ++ b ++ q ++ 10 ∷ [])) ++ (v ++ 10 ∷ []) ≡ lines ++ parts ++ a ++ p ++ b ++ q ++ 10 ∷ [] ++ v ++ 10 ∷ []
regrouped lines parts a p b q v = simp append_assoc

-- the last line, as the report has it
verdict_is : (is_fewest : Bool) → verdict_text is_fewest ≡ (if is_fewest then codes "fewest" else codes "not shown fewest") ++ 10 ∷ []
verdict_is true = refl
verdict_is false = refl

pub all_numbers-requires-clause-as_many : goal.all_numbers-requires-clause-as_many
all_numbers-requires-clause-as_many c =
    let graph = c.args.graph.now in
    ap length c.deref.ensures.value ∙ length_zip (λ mark n. HasTrailsIn graph.edges mark (trails_by graph.edges c.args.plan.now) n) graph.marks c.in_ok-pierces.pierces.items c.in_ok-pierces.ensures.each

-- each name has a face, which is one of those that are counted
pub put_parts-requires-clause-as_many : goal.put_parts-requires-clause-as_many
put_parts-requires-clause-as_many c = faces_of_names c.args.names.now c.requires.naming

pub put_parts-requires-clause-within : goal.put_parts-requires-clause-within
put_parts-requires-clause-within c = faces_are_counted c.args.graph.now.edges c.args.faces.now c.args.parts.now c.args.names.now c.requires.naming c.requires.face_count

pub returns : goal.returns
returns c =
    let graph = c.args.graph.now in
    let plan = c.args.plan.now in
    let numbers = c.in_ok-rows.rows.items in
    let counts = c.in_ok-pierces.pierces.items in
    let rows = rows_of numbers in
    let parts = part_rows c.args.faces.now.ranks c.args.parts.now.faces c.args.names.now in
    let same = c.in_ok-rows.ensures.pierces ∙ c.deref.ensures.value in
    let pierces : c.len-total.result ≡ total_pierces rows = c.len-total.ensures ∙ sym c.in_ok-pierces.ensures.all ∙ ap sum (sym (pierces_are numbers ∙ same)) in
    let bound : c.total_bound-bound.result ≡ total_bound rows = c.total_bound-bound.ensures ∙ ap (λ l. total_bound (rows_of l)) c.deref-3.ensures.value in
    let lines : c.put_rows.new.out ≡ rows_text 1 rows =
    c.in_ok-put_rows.ensures ∙ ap (λ t. t ++ rows_text 1 (rows_of c.deref-2.result.now)) c.new-text.ensures ∙ ap (λ l. rows_text 1 (rows_of l)) c.deref-2.ensures.value in
    let front : c.put_parts.new.out ≡ rows_text 1 rows ++ flat_map part_text parts = c.in_ok-put_parts.ensures ∙ ap (λ t. t ++ flat_map part_text parts) lines in
    let shown = rows_text 1 rows ++ flat_map part_text parts in
    record {
      marks = graph.marks;
      are_marks = c.graph_is_plane.ensures.are_marks;
      rows = rows;
      are_rows = with_pierces (IsRowOf graph.edges) (λ mark n. HasTrailsIn graph.edges mark (trails_by graph.edges plan) n) graph.marks numbers counts c.in_ok-rows.ensures.rows c.in_ok-pierces.ensures.each same;
      parts = parts;
      are_parts = parts_are graph.edges c.args.faces.now c.requires.ranks c.args.names.now c.args.parts.now.faces c.requires.naming.faces_at;
      is_text = c.in_ok-put_verdict.ensures ∙ ap (λ t. t ++ verdict_text (c.len-total.result == c.total_bound-bound.result)) c.in_ok-put_totals.ensures ∙
          ap (λ l. (l ++ totals_text c.len-total.result c.total_bound-bound.result) ++ verdict_text (c.len-total.result == c.total_bound-bound.result)) front ∙
          ap (λ n. (shown ++ totals_text n c.total_bound-bound.result) ++ verdict_text (n == c.total_bound-bound.result)) pierces ∙
          ap (λ n. (shown ++ totals_text (total_pierces rows) n) ++ verdict_text (total_pierces rows == n)) bound ∙
          ap (λ v. (shown ++ totals_text (total_pierces rows) (total_bound rows)) ++ v) (verdict_is (total_pierces rows == total_bound rows)) ∙
          regrouped (rows_text 1 rows) (flat_map part_text parts) (codes "total pierces ") (decimal (total_pierces rows)) (codes " bound ") (decimal (total_bound rows))
          (if total_pierces rows == total_bound rows then codes "fewest" else codes "not shown fewest");
    }
