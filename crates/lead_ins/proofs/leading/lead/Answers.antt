use Rattle.std.proofs.Common.{Some, refl, subst}
use Rattle.std.specs.Prelude.{Option, IfSome, Contains}
use Rattle.nest_base.specs.declared.places.Point.{Point}
use Rattle.cover_plan.specs.Trails.{half_edge_of}
use Rattle.plate_parts.specs.LeadIns.{Left, Right, left, right, tried_around}
use Rattle.lead_ins.proofs.FittingCorners.{first_by_hand, tried_around_vertex, answer_within}
use Rattle.lead_ins.proofs.leading.lead.Goals as goal

pub returns-in-Some-clause-first : goal.returns-in-Some-clause-first
returns-in-Some-clause-first c = λ places told.
    let s = c.args.first.0 in
    let found = first_by_hand c.args.graph.now places c.args.earlier.now s Left c.corners_of-corners.result.left c.corners_of-corners.ensures.left c.first_in_corner.result (c.first_in_corner.ensures.first places told) in
    left c.in-Some.q refl (rw c.in-Some.is at found)

pub returns-in-Some-clause-tried : goal.returns-in-Some-clause-tried
returns-in-Some-clause-tried c =
    subst (λ (answer : Option Point). IfSome answer (Contains (tried_around (half_edge_of c.args.graph.now c.args.first.0).from))) c.in-Some.is
    (tried_around_vertex c.args.graph.now c.args.first.0 Left c.corners_of-corners.result.left c.corners_of-corners.ensures.left c.first_in_corner.result c.first_in_corner.ensures.tried)

pub returns-in-Some-clause-near : goal.returns-in-Some-clause-near
returns-in-Some-clause-near c = λ n near. answer_within c.args.graph.now c.args.first.0 n (Some c.in-Some.q) near c.requires.within (returns-in-Some-clause-tried c)

pub returns-clause-first : goal.returns-clause-first
returns-clause-first c = λ places told.
    let s = c.args.first.0 in
    let not_left = first_by_hand c.args.graph.now places c.args.earlier.now s Left c.corners_of-corners.result.left c.corners_of-corners.ensures.left c.first_in_corner.result (c.first_in_corner.ensures.first places told) in
    let found = first_by_hand c.args.graph.now places c.args.earlier.now s Right c.corners_of-corners.result.right c.corners_of-corners.ensures.right c.first_in_corner-2.result (c.first_in_corner-2.ensures.first places told) in
    right (rw c.in_default.is at not_left) found

pub returns-clause-tried : goal.returns-clause-tried
returns-clause-tried c =
    tried_around_vertex c.args.graph.now c.args.first.0 Right c.corners_of-corners.result.right c.corners_of-corners.ensures.right c.first_in_corner-2.result c.first_in_corner-2.ensures.tried

pub returns-clause-near : goal.returns-clause-near
returns-clause-near c = λ n near. answer_within c.args.graph.now c.args.first.0 n c.first_in_corner-2.result near c.requires.within (returns-clause-tried c)
