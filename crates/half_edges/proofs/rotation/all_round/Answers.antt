use Rattle.std.proofs.Common.{map, ap, ◌∙◌}
use Rattle.std.proofs.lemmas.Result.{IfOk-weaker}
use Rattle.half_edges.specs.declared.rotation.Spoke.{Spoke}
use Rattle.half_edges.proofs.Spokes.{AreAllRound-sides}
use Rattle.half_edges.proofs.rotation.all_round.Goals as goal

pub returns : goal.returns
returns c =
    IfOk-weaker c.sides_of.result _ _ (λ sides same. AreAllRound-sides c.args.edges.now c.in_ok-spokes.spokes.items c.in_ok-spokes.ensures c.sort_unstable.new.self.items
    c.sort_unstable.ensures.permutation c.sort_unstable.ensures.sorted c.requires.ends_in_order c.requires.apart sides.items (same ∙ ap (map (λ (p : Spoke). p.side)) c.deref.ensures.value)) c.sides_of.ensures
