use Rattle.std.proofs.Common.{◌≡◌, ap, ap₂, sym, subst, ◌∙◌}
use Rattle.nest_base.specs.Plane.{HalfEdge, direction, twin}
use Rattle.nest_base.specs.Range.{IsWithin, widest}
use Rattle.cover_plan.specs.Trails.{half_edge_of}
use Rattle.cover_plan.proofs.GraphHalves.{half_is, has_number}
use Rattle.lead_ins.proofs.EdgeReads.{beginning_within}
use Rattle.lead_ins.proofs.corners.heading_of.Goals as goal

pub direction_to-requires-clause-a_within : goal.direction_to-requires-clause-a_within
direction_to-requires-clause-a_within c =
    subst (IsWithin widest) (sym c.beginning_of.ensures) (beginning_within widest c.args.graph.now c.args.s.0 c.requires.plane_graph.within c.requires.within)

pub direction_to-requires-clause-b_within : goal.direction_to-requires-clause-b_within
direction_to-requires-clause-b_within c =
    subst (IsWithin widest) (sym c.beginning_of-2.ensures) (beginning_within widest c.args.graph.now c.twin.result.0 c.requires.plane_graph.within c.twin.ensures.within)

pub returns : goal.returns
returns c =
    let graph = c.args.graph.now in
    let half = half_edge_of graph c.args.s.0 in
    let is_twin : half_edge_of graph c.twin.result.0 ≡ twin half = half_is graph c.twin.result.0 (twin half) (c.twin.ensures.half half (has_number graph c.args.s.0 c.requires.within)) in
    c.direction_to.ensures ∙ ap₂ direction c.beginning_of.ensures (c.beginning_of-2.ensures ∙ ap (λ (h : HalfEdge). h.from) is_twin)
