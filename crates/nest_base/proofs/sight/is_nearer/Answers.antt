use Rattle.std.proofs.Common.{◌*ℤ◌}
use Rattle.nest_base.specs.Sight.{fall, drift, x_at}
use Rattle.nest_base.proofs.Comparisons.{then_is_less}
use Rattle.nest_base.proofs.sight.is_nearer.Goals as goal

pub returns : goal.returns
returns c = record {
  nearer = λ g h down also.
      let first = c.downward-d.ensures.only g down in
      let second = c.downward-e.ensures.only h also in
      let at_height = c.order_at.ensures g h first.0 first.1 second.0 second.1 in
      let above = c.order_above.ensures g h first.0 first.1 second.0 second.1 in
      let same = rw (c.then.ensures, at_height, above) at c.eq.ensures in
      rw same (then_is_less (x_at c.args.p.y h *ℤ fall g) (x_at c.args.p.y g *ℤ fall h) (drift h *ℤ fall g) (drift g *ℤ fall h));
}
