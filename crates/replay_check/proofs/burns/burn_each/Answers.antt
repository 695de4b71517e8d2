use Rattle.std.proofs.Common.{arith, ◌≤◌, length, subst}
use Rattle.std.specs.Prelude.{AllPairs}
use Rattle.std.proofs.lemmas.List.{length-map, take_all}
use Rattle.std.proofs.lemmas.Option.{slice_get-get_or}
use Rattle.half_edges.specs.Burns.{AreOfTwoEdges}
use Rattle.replay_check.specs.declared.burns.Burn.{Burn}
use Rattle.replay_check.specs.Burning.{burnt_sides}
use Rattle.replay_check.proofs.BurntAgain.{edge_within, is_again, burnt_more}
use Rattle.replay_check.proofs.burns.burn_each.Goals as goal

pub bounds-is_burnt-edge : goal.bounds-is_burnt-edge
bounds-is_burnt-edge c =
    edge_within c.args.burns.now c.loop-burn.burn-index _ c.loop-burn.is_burnt
    (slice_get-get_or c.args.burns.now c.loop-burn.burn-index _ c.loop-burn-test.true)
    (length c.args.is_burnt.now) c.loop-burn.auto.is_burnt c.requires.within c.loop-burn.invariant

pub returns-then-is_burnt-edge-clause-again : goal.returns-then-is_burnt-edge-clause-again
returns-then-is_burnt-edge-clause-again c =
    is_again c.args.burns.now c.loop-burn.burn-index _ c.loop-burn.is_burnt
    (slice_get-get_or c.args.burns.now c.loop-burn.burn-index _ c.loop-burn-test.true)
    (length c.args.is_burnt.now) c.loop-burn.auto.is_burnt c.requires.within c.loop-burn.invariant c.if-is_burnt-edge.true

pub bounds-is_burnt-edge-in-loop-burn : goal.bounds-is_burnt-edge-in-loop-burn
bounds-is_burnt-edge-in-loop-burn c =
    edge_within c.args.burns.now c.loop-burn.burn-index _ c.loop-burn.is_burnt
    (slice_get-get_or c.args.burns.now c.loop-burn.burn-index _ c.loop-burn-test.true)
    (length c.args.is_burnt.now) c.loop-burn.auto.is_burnt c.requires.within c.loop-burn.invariant

pub loop-burn-preserved : goal.loop-burn-preserved
loop-burn-preserved c =
    burnt_more c.args.burns.now c.loop-burn.burn-index _ c.loop-burn.is_burnt
    (slice_get-get_or c.args.burns.now c.loop-burn.burn-index _ c.loop-burn-test.true)
    (length c.args.is_burnt.now) c.loop-burn.auto.is_burnt c.requires.within c.loop-burn.invariant c.if-is_burnt-edge.false

pub returns-clause-once : goal.returns-clause-once
returns-clause-once c =
    let end : length (burnt_sides c.args.burns.now) ≤ c.loop-burn.burn-index =
    omega (arith, c.loop-burn-test.false, length-map c.args.burns.now (λ (b : Burn). b.side.0)) in
    subst (AllPairs AreOfTwoEdges) (take_all c.loop-burn.burn-index (burnt_sides c.args.burns.now) end) c.loop-burn.invariant.once
