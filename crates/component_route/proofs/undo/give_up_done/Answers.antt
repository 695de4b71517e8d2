use Rattle.std.proofs.Common.{ap, sym, ◌∙◌, ◌++◌, take, append-nil}
use Rattle.half_edges.specs.Burns.{with_burnt}
use Rattle.component_route.proofs.Reburning.{all_again, again_in, again_unburnt, burnt_again}
use Rattle.component_route.proofs.undo.give_up_done.Goals as goal

pub burn-requires-clause-within : goal.burn-requires-clause-within
burn-requires-clause-within c =
    again_in c.stack-side-items.result.now c.loop-side.side-index (record { 0 = 0 }) c.loop-side-test.true c.args.graph.now c.args.checkpoint c.args.route.now.stack c.requires c.stack-side-items.ensures
    c.loop-side.graph c.loop-side.invariant

pub burn-requires-clause-unburnt : goal.burn-requires-clause-unburnt
burn-requires-clause-unburnt c =
    again_unburnt c.stack-side-items.result.now c.loop-side.side-index (record { 0 = 0 }) c.loop-side-test.true c.args.graph.now c.args.checkpoint c.args.route.now.stack c.requires c.stack-side-items.ensures
    c.loop-side.graph c.loop-side.invariant

pub loop-side-init : goal.loop-side-init
loop-side-init c = c.unburn_to.ensures ∙ ap (with_burnt c.args.graph.now) (sym (append-nil (take c.args.checkpoint c.args.graph.now.burnt)))

pub loop-side-preserved : goal.loop-side-preserved
loop-side-preserved c =
    burnt_again c.stack-side-items.result.now c.loop-side.side-index (record { 0 = 0 }) c.loop-side-test.true c.args.graph.now c.args.checkpoint c.args.route.now.stack c.requires c.stack-side-items.ensures
    c.loop-side.graph c.burn.new.self c.loop-side.invariant c.burn.ensures

pub returns-clause-graph : goal.returns-clause-graph
returns-clause-graph c =
    c.loop-side.invariant ∙ ap (λ l. with_burnt c.args.graph.now (take c.args.checkpoint c.args.graph.now.burnt ++ l))
    (all_again c.args.route.now.stack c.stack-side-items.result.now c.loop-side.side-index c.stack-side-items.ensures c.loop-side-test.false)
