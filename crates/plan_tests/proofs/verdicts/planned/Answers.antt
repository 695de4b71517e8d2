-- Burning leaves the edges as they were.
use Rattle.std.proofs.Common.{arith, sym, ap, subst, ◌∙◌, ◌≡◌}
use Rattle.std.specs.Prelude.{All}
use Rattle.nest_base.specs.Range.{IsEdgeWithin}
use Rattle.half_edges.specs.Graph.{Graph}
use Rattle.lead_ins.specs.Tries.{lead_range}
use Rattle.plan_tests.proofs.verdicts.planned.Goals as goal

pub lead_all-requires-clause-near : goal.lead_all-requires-clause-near
lead_all-requires-clause-near c =
    let same : c.cover_all.new.graph.edges ≡ c.in_ok-edges.edges = ap (λ (g : Graph). g.edges) c.cover_all.ensures.same ∙ c.in_ok-graph.ensures.edges in
    subst (All (IsEdgeWithin lead_range)) (c.as_slice.ensures ∙ sym same) (c.if-not-are_near.ensures (grind (arith, c.if-not-are_near.false)))
