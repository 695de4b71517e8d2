use Rattle.std.proofs.Common.{arith, ◌+◌, length, sym, subst}
use Rattle.std.specs.Prelude.{None}
use Rattle.std.proofs.lemmas.Option.{slice_get_read}
use Rattle.nest_base.specs.NumberLists.{parent_numbers}
use Rattle.burning_order.proofs.Numbers.{length-parents, inner_read, outer_read, parent_within}
use Rattle.burning_order.proofs.Children.{AreCounted, all_are_counted, outer_is_counted, inner_is_counted, count_few}
use Rattle.burning_order.proofs.order.children_of.Goals as goal
use Rattle.burning_order.proofs.order.children_of.Goals.{in-Some, in_default}

pub index_mut-requires : goal.index_mut-requires
index_mut-requires c =
    let within = parent_within c.args.parents.now c.loop-parent.parent-index c.in-Some.p None c.requires.first c.loop-parent-test.true c.in-Some.is in
    omega (arith, within, c.loop-parent.invariant.as_many)

pub overflow_add-index_mut : goal.overflow_add-index_mut
overflow_add-index_mut c =
    let parents = c.args.parents.now in
    let i = c.loop-parent.parent-index in
    let children = c.loop-parent.children.items in
    let count = c.index_mut.result.now in
    let within = parent_within parents i c.in-Some.p None c.requires.first c.loop-parent-test.true c.in-Some.is in
    let few = count_few (parent_numbers parents) i children c.in-Some.p.0 count c.loop-parent.invariant
    (inner_read parents i c.in-Some.p None c.loop-parent-test.true c.in-Some.is) within
    (slice_get_read children (length children) c.in-Some.p.0 count (omega arith) (omega (arith, within, c.loop-parent.invariant.as_many)) c.index_mut.ensures.value) in
    omega (arith, few, length-parents parents, c.requires.few)

pub loop-parent-preserved : goal.loop-parent-preserved
loop-parent-preserved c = elim c.match-parent.branch [
  | in-Some w ↦
      let parents = c.args.parents.now in
      let i = c.loop-parent.parent-index in
      let children = c.loop-parent.children.items in
      let count = w.index_mut.result.now in
      let within = parent_within parents i w.in-Some.p None c.requires.first c.loop-parent-test.true w.in-Some.is in
      subst (λ made. AreCounted (parent_numbers parents) (i + 1) made.items) (sym w.children-is)
      (inner_is_counted (parent_numbers parents) i children w.in-Some.p.0 count c.loop-parent.invariant
      (inner_read parents i w.in-Some.p None c.loop-parent-test.true w.in-Some.is) within
      (slice_get_read children (length children) w.in-Some.p.0 count (omega arith) (omega (arith, within, c.loop-parent.invariant.as_many)) w.index_mut.ensures.value))
  | in_default w ↦
      let parents = c.args.parents.now in
      let i = c.loop-parent.parent-index in
      subst (λ made. AreCounted (parent_numbers parents) (i + 1) made.items) (sym w.children-is)
      (outer_is_counted (parent_numbers parents) i c.loop-parent.children.items c.loop-parent.invariant
      (outer_read parents i None c.loop-parent-test.true w.in_default.not-Some))
]

pub returns : goal.returns
returns c =
    all_are_counted (parent_numbers c.args.parents.now) c.loop-parent.parent-index c.loop-parent.children.items c.loop-parent.invariant
    (omega (arith, c.loop-parent-test.false, length-parents c.args.parents.now))
