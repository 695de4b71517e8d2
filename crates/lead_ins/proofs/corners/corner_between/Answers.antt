use Rattle.std.proofs.Common.{arith, sym, subst}
use Rattle.nest_base.specs.Angles.{IsDirection}
use Rattle.nest_base.specs.Range.{IsWithin, widest}
use Rattle.half_edges.proofs.Numbers.{length-half_edges}
use Rattle.plate_nesting.proofs.Corners.{heading_is_direction}
use Rattle.cover_plan.specs.Trails.{half_edge_of}
use Rattle.cover_plan.proofs.GraphHalves.{is_half_edge}
use Rattle.lead_ins.proofs.EdgeReads.{beginning_within}
use Rattle.lead_ins.proofs.corners.corner_between.Goals as goal

pub prove-unreachable-requires : goal.prove-unreachable-requires
prove-unreachable-requires c = omega (arith, c.requires.a_within, length-half_edges c.args.graph.now.edges, c.edge_count-edges.ensures.count)

pub returns-clause-between : goal.returns-clause-between
returns-clause-between c =
    let graph = c.args.graph.now in
    let plane = c.edge_count-edges.ensures.plane_graph in
    let first = half_edge_of graph c.args.a.0 in
    let last = half_edge_of graph c.args.b.0 in
    record {
      within = c.requires.a_within;
      vertex = c.beginning_of.ensures;
      first = c.heading_of.ensures;
      last = c.heading_of-2.ensures;
      first_leads = subst IsDirection (sym c.heading_of.ensures) (heading_is_direction graph.edges plane.ends_in_order first (is_half_edge plane c.args.a.0 c.requires.a_within));
      last_leads = subst IsDirection (sym c.heading_of-2.ensures) (heading_is_direction graph.edges plane.ends_in_order last (is_half_edge plane c.args.b.0 c.requires.b_within));
      vertex_within = subst (IsWithin widest) (sym c.beginning_of.ensures) (beginning_within widest graph c.args.a.0 plane.within c.requires.a_within);
    }
