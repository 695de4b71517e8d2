use Rattle.std.proofs.Common.{arith}
use Rattle.std.proofs.lemmas.List.{get_or_read}
use Rattle.half_edges.proofs.GraphReads.{position_within, position_read}
use Rattle.half_edges.proofs.graph.PlaneGraph.position.Goals as goal

pub index-requires : goal.index-requires
index-requires c =
    let below = position_within c.self.invariant.graph c.args.s.0 (rw (← c.self.view_is) at c.requires) in
    omega (arith, below, c.self.inside.layout.positions.ok.0)

pub returns-clause-place : goal.returns-clause-place
returns-clause-place c = rw (← c.self.view_is) (λ h is rotation is_rotation. position_read c.self.invariant.graph c.args.s.0 c.index.result.now c.index.ensures h is rotation is_rotation)

pub returns-clause-number : goal.returns-clause-number
returns-clause-number c =
    let below = position_within c.self.invariant.graph c.args.s.0 (rw (← c.self.view_is) at c.requires) in
    rw (← c.self.view_is) (get_or_read c.self.inside.layout.positions.items c.args.s.0 c.index.result.now below c.index.ensures 0)
