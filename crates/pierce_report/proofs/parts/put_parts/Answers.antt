use Rattle.std.proofs.Common.{arith, ◌≡◌, ◌++◌, ◌≤◌, length, ap, sym, ◌∙◌}
use Rattle.std.specs.Prelude.{Some, flat_map, slice_get, slice_index}
use Rattle.std.proofs.lemmas.List.{take_all}
use Rattle.std.proofs.lemmas.Option.{slice_get-get_or}
use Rattle.pierce_report.specs.Report.{PartRow, part_text}
use Rattle.pierce_report.specs.Parts.{part_row, part_rows}
use Rattle.pierce_report.proofs.PartLines.{part_rows_read, part_rows_long, next_part}
use Rattle.pierce_report.proofs.PartFaces.{index_is}
use Rattle.pierce_report.proofs.parts.put_parts.Goals as goal

-- the line of one more name
pub loop-i-preserved : goal.loop-i-preserved
loop-i-preserved c =
    let ranks = c.args.faces.now.ranks in
    let named = c.args.parts.now.faces in
    let names = c.args.names.now in
    let name = c.index-names-i.result in
    let face = c.face_of_name-face.result.0 in
    let row : PartRow = record { text = c.as_slice.result.now; rank = c.rank.result } in
    let at_name : slice_get names c.loop-i.i ≡ Some name = slice_get-get_or names c.loop-i.i name c.loop-i-test.true ∙ ap Some (sym c.index-names-i.is) in
    let same : part_row ranks face name ≡ row =
    ap (λ t. record { text = t; rank = slice_index ranks face }) (sym c.as_slice.ensures) ∙ ap (λ r. record { text = c.as_slice.result.now; rank = r }) (index_is ranks face c.rank.result c.rank.ensures) in
    next_part (part_rows ranks named names) c.loop-i.i row c.args.out.now c.loop-i.out c.put_part.new.out
    (part_rows_read ranks named names c.loop-i.i face name c.face_of_name-face.ensures at_name ∙ ap Some same) c.loop-i.invariant c.in_ok-put_part.ensures

pub returns : goal.returns
returns c =
    let rows = part_rows c.args.faces.now.ranks c.args.parts.now.faces c.args.names.now in
    let many : length rows ≤ c.loop-i.i = omega (arith, part_rows_long c.args.faces.now.ranks c.args.parts.now.faces c.args.names.now c.requires.as_many, c.loop-i-test.false) in
    c.loop-i.invariant ∙ ap (λ some. c.args.out.now ++ flat_map part_text some) (take_all c.loop-i.i rows many)
