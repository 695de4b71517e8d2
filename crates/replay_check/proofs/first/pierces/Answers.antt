use Rattle.std.proofs.Common.{sym, ap, subst, ◌∙◌}
use Rattle.std.specs.Prelude.{IsTrue}
use Rattle.std.specs.List.{count_by}
use Rattle.std.proofs.lemmas.List.{take_all}
use Rattle.nest_base.specs.Selection.{HasCount}
use Rattle.code_moves.specs.declared.moves.Move.{Move}
use Rattle.replay_check.proofs.Lightings.{HasCount-by_count}
use Rattle.replay_check.proofs.first.pierces.Goals as goal

pub returns : goal.returns
returns c =
    let all = ap (count_by (λ (m : Move). m.fresh)) (take_all c.loop-step.step-index c.args.moves.now c.loop-step-test.false) in
    subst (HasCount (λ (m : Move). IsTrue m.fresh) c.args.moves.now) (sym (c.loop-step.invariant ∙ all))
    (HasCount-by_count (λ (m : Move). m.fresh) c.args.moves.now)
