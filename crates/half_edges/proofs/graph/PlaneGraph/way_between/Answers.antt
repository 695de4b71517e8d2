use Rattle.half_edges.proofs.AngleSearch.{vertex_in_range}
use Rattle.half_edges.proofs.GraphReads.{is_vertex}
use Rattle.half_edges.proofs.graph.PlaneGraph.way_between.Goals as goal

pub way-requires-clause-from_within : goal.way-requires-clause-from_within
way-requires-clause-from_within c =
    let graph = c.self.invariant.graph in vertex_in_range _ c.place_at.result graph.within (is_vertex graph c.args.v.0 c.place_at.result c.place_at.ensures)

pub way-requires-clause-to_within : goal.way-requires-clause-to_within
way-requires-clause-to_within c =
    let graph = c.self.invariant.graph in vertex_in_range _ c.place_at-2.result graph.within (is_vertex graph c.args.w.0 c.place_at-2.result c.place_at-2.ensures)

pub returns-clause-apart : goal.returns-clause-apart
returns-clause-apart c = rw (← c.self.view_is) c.self.invariant.graph.apart
