-- Which edge has the half-edge with this number, and which way it leads.
use Rattle.std.proofs.Common.{arith, sym, ap}
use Rattle.nest_base.specs.Plane.{HalfEdge}
use Rattle.half_edges.proofs.Numbers.{length-half_edges, side_of_even, side_of_odd}
use Rattle.half_edges.proofs.layout.start_of.Goals as goal

pub bounds-edges-number : goal.bounds-edges-number
bounds-edges-number c = omega (arith, length-half_edges c.args.edges.now)

pub returns-then-number-eq0 : goal.returns-then-number-eq0
returns-then-number-eq0 c h is = sym (ap (λ (g : HalfEdge). g.from) (side_of_even c.args.edges.now c.args.side.0 h _ is c.if-number-eq0.true))

pub returns-else-number-eq0 : goal.returns-else-number-eq0
returns-else-number-eq0 c h is = sym (ap (λ (g : HalfEdge). g.from) (side_of_odd c.args.edges.now c.args.side.0 h _ is c.if-number-eq0.false))
