use Rattle.std.proofs.Common.{◌+◌, take, sym, subst}
use Rattle.std.specs.List.{AllZip}
use Rattle.std.proofs.lemmas.Option.{slice_get-get_or}
use Rattle.face_nesting.proofs.Prefixes.{AllZip-one_more}
use Rattle.replay_check.specs.Kinds.{IsKind}
use Rattle.replay_check.proofs.kinds.kinds_of.Goals as goal

pub loop-step-preserved : goal.loop-step-preserved
loop-step-preserved c =
    subst (AllZip (IsKind c.args.graph.now.edges) (take (c.loop-step.step-index + 1) c.args.moves.now)) (sym c.in_ok-push.ensures.items)
    (AllZip-one_more (IsKind c.args.graph.now.edges) c.args.moves.now c.loop-step.kinds.items c.loop-step.step-index _ c.kind_of.result
    (slice_get-get_or c.args.moves.now c.loop-step.step-index _ c.loop-step-test.true) c.loop-step.invariant c.kind_of.ensures)
