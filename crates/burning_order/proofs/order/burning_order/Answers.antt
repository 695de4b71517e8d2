use Rattle.std.proofs.Common.{arith, ◌≡◌, ◌<◌, ◌+◌, length, sym, ap, subst₂, ◌∙◌}
use Rattle.std.specs.Prelude.{Some}
use Rattle.std.proofs.lemmas.List.{with_items_is}
use Rattle.std.proofs.lemmas.Option.{slice_get_read}
use Rattle.nest_base.specs.NumberLists.{parent_numbers, component_numbers}
use Rattle.burning_order.specs.Turns.{HaveHadTurns}
use Rattle.burning_order.proofs.Numbers.{length-parents}
use Rattle.burning_order.proofs.Scan.{turn_passes, leaf_is_ready, all_are_burnt}
use Rattle.burning_order.proofs.order.burning_order.Goals as goal
use Rattle.burning_order.proofs.order.burning_order.Goals.{then-index-eq0+in_ok-burn_outward, else-index-eq0}

pub burn_outward-requires-clause-ready : goal.burn_outward-requires-clause-ready
burn_outward-requires-clause-ready c =
    let parents = c.args.parents.now in
    let waiting = c.loop-c.waiting.items in
    let turn = c.loop-c.invariant in
    let within : c.loop-c.c < length (parent_numbers parents) = omega (arith, c.loop-c-test.true, length-parents parents) in
    leaf_is_ready (parent_numbers parents) c.loop-c.c (component_numbers c.loop-c.order.items) waiting turn within
    (slice_get_read waiting (length waiting) c.loop-c.c c.index.result.now (omega arith) (omega (arith, within, turn.counted.as_many)) c.index.ensures ∙ ap Some c.if-index-eq0.true)

pub loop-c-preserved : goal.loop-c-preserved
loop-c-preserved c = elim c.if-index-eq0.branch [
  | then-index-eq0+in_ok-burn_outward w ↦
      let now = w.in_ok-burn_outward.ensures in
      let long : length w.burn_outward.new.waiting ≡ c.loop-c.waiting.len = omega (arith, now.counted.as_many, c.loop-c.invariant.counted.as_many, c.loop-c.waiting.ok.0) in
      subst₂ (λ order waiting. HaveHadTurns (parent_numbers c.args.parents.now) (c.loop-c.c + 1) (component_numbers order.items) waiting) (sym w.order-is)
      (sym (ap (λ made. made.items) w.waiting-is ∙ with_items_is c.loop-c.waiting w.burn_outward.new.waiting long)) now
  | else-index-eq0 w ↦
      let parents = c.args.parents.now in
      let waiting = c.loop-c.waiting.items in
      let turn = c.loop-c.invariant in
      let read = slice_get_read waiting (length waiting) c.loop-c.c c.index.result.now (omega arith) (omega (arith, c.loop-c-test.true, length-parents parents, turn.counted.as_many)) c.index.ensures in
      subst₂ (λ order waiting. HaveHadTurns (parent_numbers parents) (c.loop-c.c + 1) (component_numbers order.items) waiting.items) (sym w.order-is) (sym w.waiting-is)
      (turn_passes (parent_numbers parents) c.loop-c.c (component_numbers c.loop-c.order.items) waiting c.index.result.now turn read (omega (arith, w.if-index-eq0.false)))
]

pub returns : goal.returns
returns c =
    let parents = c.args.parents.now in
    all_are_burnt (parent_numbers parents) c.loop-c.c (component_numbers c.loop-c.order.items) c.loop-c.waiting.items c.requires.first c.loop-c.invariant
    (omega (arith, c.loop-c-test.false, length-parents parents))
