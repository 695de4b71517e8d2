use Rattle.std.proofs.Common.{refl}
use Rattle.nest_base.proofs.Angles.{angle_cmp-less, angle_cmp-equal, angle_cmp-greater}
use Rattle.nest_base.proofs.turn.turn_order.Goals as goal

pub returns-clause-order : goal.returns-clause-order
returns-clause-order c = rw (c.then.ensures, c.cmp.ensures, c.side_order.ensures, c.half_of.ensures, c.half_of-2.ensures) refl

pub returns-clause-before : goal.returns-clause-before
returns-clause-before c = rw (returns-clause-order c) (angle_cmp-less c.args.a c.args.b)

pub returns-clause-same : goal.returns-clause-same
returns-clause-same c = rw (returns-clause-order c) (angle_cmp-equal c.args.a c.args.b)

pub returns-clause-after : goal.returns-clause-after
returns-clause-after c = rw (returns-clause-order c) (angle_cmp-greater c.args.a c.args.b)
