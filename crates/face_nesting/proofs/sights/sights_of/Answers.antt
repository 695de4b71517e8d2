use Rattle.std.proofs.Common.{[], ◌∷◌, sym, ◌∙◌}
use Rattle.std.proofs.lemmas.List.{map-append}
use Rattle.nest_base.specs.Range.{widest}
use Rattle.nest_base.proofs.ListReads.{Contains-from_read}
use Rattle.face_nesting.specs.Numbering.{number_seen, sight_numbers_of}
use Rattle.face_nesting.specs.Sights.{IsSight}
use Rattle.face_nesting.proofs.Prefixes.{AllZip-one_more}
use Rattle.face_nesting.proofs.SeenSoFar.{sight_found, vertex_within}
use Rattle.face_nesting.proofs.sights.sights_of.Goals as goal

pub seen_from-requires-clause-can_count : goal.seen_from-requires-clause-can_count
seen_from-requires-clause-can_count c = rw c.requires.edges (c.component_count-c-end.ensures.plane_graph.few, c.component_count-c-end.ensures.plane_graph.within)

pub seen_from-requires-clause-p_within : goal.seen_from-requires-clause-p_within
seen_from-requires-clause-p_within c =
    let graph = c.args.graph.now in
    let at = sym c.mark_vertex.ensures.mark ∙ c.place-mark.ensures in
    let mark = (c.component_count-c-end.ensures.plane_graph.are_marks.are_all c.place-mark.result).0 (Contains-from_read graph.marks c.loop-c.c c.place-mark.result at) in
    vertex_within widest graph.edges c.place-mark.result c.component_count-c-end.ensures.plane_graph.within mark.vertex

pub loop-c-preserved : goal.loop-c-preserved
loop-c-preserved c =
    let graph = c.args.graph.now in
    let edges = c.args.edges.now in
    let at = sym c.mark_vertex.ensures.mark ∙ c.place-mark.ensures in
    let found = sight_found edges c.place-mark.result c.seen_from.result c.seen_from.ensures.found c.seen_from.ensures.none in
    rw (c.in_ok-push.ensures.items, map-append number_seen c.loop-c.sights.items (c.seen_from.result ∷ []))
    (AllZip-one_more (IsSight edges) graph.marks (sight_numbers_of c.loop-c.sights.items) c.loop-c.c c.place-mark.result (number_seen c.seen_from.result) at c.loop-c.invariant found)
