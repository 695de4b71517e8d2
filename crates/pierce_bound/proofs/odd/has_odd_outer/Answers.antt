-- What the outer sides of the component say of its outer vertices.
use Rattle.std.proofs.Common.{arith, ◌≡◌, length, sym, ap, subst, ◌∙◌}
use Rattle.std.specs.Prelude.{slice_get}
use Rattle.std.proofs.lemmas.List.{length-map}
use Rattle.nest_base.specs.declared.numbers.Side.{Side}
use Rattle.nest_base.proofs.ListReads.{read_below}
use Rattle.nest_base.specs.NumberLists.{side_numbers}
use Rattle.face_nesting.specs.Nesting.{AreOuterSides}
use Rattle.pierce_bound.proofs.OuterOdd.{NoneIsOdd, number_at, outer_below, none_more, odd_outer, none_outer}
use Rattle.pierce_bound.proofs.odd.has_odd_outer.Goals as goal

pub from-requires : goal.from-requires
from-requires c =
    let graph = c.args.graph.now in
    let sides = c.outer_sides-side-items.result.now in
    let mark = read_below graph.marks c.args.c.0 c.requires.component in
    let are = subst (AreOuterSides graph.edges mark.0) (sym c.outer_sides-side-items.ensures) (c.requires.outer_cycles c.args.c.0 mark.0 mark.1) in
    outer_below graph.edges mark.0 (side_numbers sides) are c.loop-side.side-index _ (number_at sides c.loop-side.side-index (record { 0 = 0 }) c.loop-side-test.true)

pub loop-side-preserved : goal.loop-side-preserved
loop-side-preserved c =
    let graph = c.args.graph.now in
    let sides = c.outer_sides-side-items.result.now in
    none_more graph (side_numbers sides) c.loop-side.side-index _ (number_at sides c.loop-side.side-index (record { 0 = 0 }) c.loop-side-test.true) c.loop-side.invariant
    (λ p at. c.is_odd.ensures.even c.if-is_odd.false p (ap (slice_get graph.vertices) c.from.ensures.number ∙ at))

pub returns-then-is_odd-clause-some : goal.returns-then-is_odd-clause-some
returns-then-is_odd-clause-some c = λ is mark at_mark.
    let graph = c.args.graph.now in
    let sides = c.outer_sides-side-items.result.now in
    let are = subst (AreOuterSides graph.edges mark) (sym c.outer_sides-side-items.ensures) (c.requires.outer_cycles c.args.c.0 mark at_mark) in
    odd_outer c.graph_is_plane.ensures mark (side_numbers sides) are c.loop-side.side-index _ (number_at sides c.loop-side.side-index (record { 0 = 0 }) c.loop-side-test.true)
    (λ p at. c.is_odd.ensures.odd c.if-is_odd.true p (ap (slice_get graph.vertices) c.from.ensures.number ∙ at))

pub returns-clause-none : goal.returns-clause-none
returns-clause-none c = λ not mark at_mark.
    let graph = c.args.graph.now in
    let sides = c.outer_sides-side-items.result.now in
    let are = subst (AreOuterSides graph.edges mark) (sym c.outer_sides-side-items.ensures) (c.requires.outer_cycles c.args.c.0 mark at_mark) in
    let all : c.loop-side.side-index ≡ length (side_numbers sides) = omega (arith, length-map sides (λ (s : Side). s.0), c.loop-side-test.false, c.loop-side.auto.side-index-end) in
    none_outer c.graph_is_plane.ensures mark (side_numbers sides) are (subst (NoneIsOdd graph (side_numbers sides)) all c.loop-side.invariant)
