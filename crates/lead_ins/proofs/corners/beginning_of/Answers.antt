use Rattle.std.proofs.Common.{sym, ◌∙◌}
use Rattle.std.proofs.lemmas.Option.{same_Some}
use Rattle.cover_plan.specs.Trails.{half_edge_of}
use Rattle.cover_plan.proofs.GraphHalves.{has_number}
use Rattle.lead_ins.proofs.corners.beginning_of.Goals as goal

pub returns : goal.returns
returns c =
    let half = half_edge_of c.args.graph.now c.args.s.0 in
    same_Some c.place.result half.from (sym c.place.ensures ∙ c.from.ensures.vertex half (has_number c.args.graph.now c.args.s.0 c.requires))
