use Rattle.std.proofs.Common.{arith, ◌<◌, [], ◌∷◌, length, ◌∙◌}
use Rattle.std.proofs.lemmas.List.{map-append}
use Rattle.nest_base.specs.declared.numbers.Side.{Side}
use Rattle.nest_base.proofs.ListReads.{read_below}
use Rattle.nest_base.specs.NumberLists.{side_numbers}
use Rattle.face_nesting.specs.Sights.{IsMarkSideOf}
use Rattle.face_nesting.proofs.MarkSides.{mark_side_found}
use Rattle.face_nesting.proofs.Prefixes.{AllZip-one_more}
use Rattle.face_nesting.proofs.marks.mark_sides.Goals as goal

pub loop-c-preserved : goal.loop-c-preserved
loop-c-preserved c =
    let graph = c.args.graph.now in
    let first = c.first_side.ensures in
    let within : c.loop-c.c < length graph.marks = omega (arith, c.component_count-c-end.ensures.count) in
    let mark = read_below graph.marks c.loop-c.c within in
    let at = c.mark_vertex-mark.ensures.mark ∙ mark.1 in
    let rotation = first.rotation mark.0 at in
    let side = first.first mark.0 at rotation.0 rotation.1 in
    let found = mark_side_found graph.edges first.ends_in_order c.component_count-c-end.ensures.marks c.loop-c.c mark.0 mark.1 rotation.0 rotation.1 side.0 side.1 c.cw.result.0 (c.cw.ensures.next side.0 side.2) in
    rw (c.in_ok-push.ensures.items, map-append (λ (s : Side). s.0) c.loop-c.sides.items (c.cw.result ∷ []))
    (AllZip-one_more (IsMarkSideOf graph.edges) graph.marks (side_numbers c.loop-c.sides.items) c.loop-c.c mark.0 c.cw.result.0 mark.1 c.loop-c.invariant found)
