use Rattle.std.proofs.Common.{refl}
use Rattle.lead_ins.proofs.CornersOf.{left_corner_of, right_corner_of}
use Rattle.lead_ins.proofs.corners.corners_of.Goals as goal

pub returns-clause-left : goal.returns-clause-left
returns-clause-left c =
    left_corner_of c.args.graph.now c.corner_between.ensures.plane_graph c.args.s.0 c.ccw.result.0 c.corner_between.result c.requires c.ccw.ensures.next refl
    c.corner_between.ensures.side c.corner_between.ensures.between

pub returns-clause-right : goal.returns-clause-right
returns-clause-right c =
    right_corner_of c.args.graph.now c.corner_between-2.ensures.plane_graph c.args.s.0 c.cw.result.0 c.corner_between-2.result c.requires c.cw.ensures.next refl
    c.corner_between-2.ensures.side c.corner_between-2.ensures.between
