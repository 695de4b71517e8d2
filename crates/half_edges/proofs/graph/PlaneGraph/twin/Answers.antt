use Rattle.std.proofs.Common.{arith, length}
use Rattle.half_edges.proofs.Numbers.{length-half_edges}
use Rattle.half_edges.proofs.Twins.{IsSide-twin}
use Rattle.rotation_systems.proofs.Twins.{twin_below}
use Rattle.half_edges.proofs.graph.PlaneGraph.twin.Goals as goal

pub returns-clause-half : goal.returns-clause-half
returns-clause-half c h is = rw c.twin_of.ensures (IsSide-twin c.args.self.now.edges c.args.s.0 h is)

pub returns-clause-within : goal.returns-clause-within
returns-clause-within c =
    let long = length-half_edges c.args.self.now.edges in
    let below = twin_below (length c.args.self.now.edges) c.args.s.0 (omega (arith, long, c.requires)) in
    rw c.twin_of.ensures (omega (arith, long, below))
