use Rattle.oe_cover.proofs.Pieces.{begins_where_ends}
use Rattle.oe_cover.proofs.plan.beginning.Goals as goal

pub returns-else-index-eq0 : goal.returns-else-index-eq0
returns-else-index-eq0 c = begins_where_ends c.args.ends.now c.args.index c.if-index-eq0.false c.requires
