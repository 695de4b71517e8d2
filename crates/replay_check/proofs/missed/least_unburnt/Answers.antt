use Rattle.std.proofs.Common.{arith, ◌+◌, false, sym, ap, subst, ◌∙◌}
use Rattle.std.specs.Prelude.{Some}
use Rattle.std.proofs.lemmas.Option.{slice_get-get_or}
use Rattle.replay_check.proofs.LeastUnburnt.{IsLeastSoFar, least_past_burnt, least_past_unburnt, least_of_all, none_of_all}
use Rattle.replay_check.proofs.missed.least_unburnt.Goals as goal
use Rattle.replay_check.proofs.missed.least_unburnt.Goals.{then-not-is_burnt-k, else-not-is_burnt-k}

pub loop-k-preserved : goal.loop-k-preserved
loop-k-preserved c =
    let edges = c.args.graph.now.edges in
    let flags = c.args.is_burnt.now in
    let k = c.loop-k.k in
    let flag = slice_get-get_or flags k false (omega (arith, c.loop-k-test.true, c.edge_count-k-end.ensures.count, c.requires)) in
    elim c.if-not-is_burnt-k.branch [
      | then-not-is_burnt-k w ↦
          subst (IsLeastSoFar edges flags (k + 1)) (sym w.least-is)
          (least_past_unburnt edges flags k w.edge_at.result w.lesser.result
          (w.edge_at.ensures, flag ∙ ap Some w.if-not-is_burnt-k.true) c.loop-k.least c.loop-k.invariant
          (record { alone = w.lesser.ensures.alone; one = w.lesser.ensures.one; first = w.lesser.ensures.first }))
      | else-not-is_burnt-k w ↦
          subst (IsLeastSoFar edges flags (k + 1)) (sym w.least-is)
          (least_past_burnt edges flags k c.loop-k.least (flag ∙ ap Some w.if-not-is_burnt-k.false) c.loop-k.invariant)
    ]

pub returns-clause-least : goal.returns-clause-least
returns-clause-least c =
    least_of_all c.args.graph.now.edges c.args.is_burnt.now c.loop-k.k c.loop-k.least
    (omega (arith, c.edge_count-k-end.ensures.count, c.loop-k-test.false)) c.loop-k.invariant

pub returns-clause-none : goal.returns-clause-none
returns-clause-none c =
    none_of_all c.args.graph.now.edges c.args.is_burnt.now c.loop-k.k c.loop-k.least
    (omega (arith, c.edge_count-k-end.ensures.count, c.loop-k-test.false)) c.loop-k.invariant
