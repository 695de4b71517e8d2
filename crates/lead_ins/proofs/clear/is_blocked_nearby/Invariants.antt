use Rattle.std.proofs.Common.{◌<◌, length}
use Rattle.half_edges.specs.Numbers.{half_edges_of}
use Rattle.lead_ins.proofs.clear.is_blocked_nearby.Given as goal

-- it is a half-edge of the graph
abbrev pub invariant-loop : goal.invariant-loop
invariant-loop l = l.s.0 < length (half_edges_of l.graph.edges)
