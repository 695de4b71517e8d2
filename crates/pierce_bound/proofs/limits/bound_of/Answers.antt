use Rattle.std.proofs.Common.{arith, subst}
use Rattle.plate_sides.specs.OddCounts.{HasOddCount}
use Rattle.pierce_bound.proofs.FromCounts.{bound_none, bound_some}
use Rattle.pierce_bound.proofs.limits.bound_of.Goals as goal

pub returns-then-odd-eq0 : goal.returns-then-odd-eq0
returns-then-odd-eq0 c = λ edges mark counted. bound_none edges mark (subst (HasOddCount edges mark) c.if-odd-eq0.true counted)

pub returns-else-odd-eq0 : goal.returns-else-odd-eq0
returns-else-odd-eq0 c = λ edges mark counted. bound_some edges mark c.args.odd (omega (arith, c.if-odd-eq0.false)) counted
