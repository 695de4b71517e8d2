use Rattle.std.proofs.Common.{refl}
use Rattle.nest_base.proofs.ListReads.{Contains-from_read}
use Rattle.replay_check.proofs.kinds.is_vertex.Goals as goal

pub returns-in-Some : goal.returns-in-Some
returns-in-Some c = (
  λ yes. (c.vertex_count.ensures.vertices.are_all c.args.p).0 (Contains-from_read c.args.graph.now.vertices c.in-Some.v.0 c.args.p c.in-Some.ensures.found),
  λ vertex. refl,
)
