use Rattle.std.proofs.Common.{arith, subst}
use Rattle.plate_sides.specs.OddCounts.{HasOddCount}
use Rattle.pierce_bound.proofs.FromCounts.{limit_none, limit_outer, limit_inner}
use Rattle.pierce_bound.proofs.limits.limit_of.Goals as goal

pub returns-then-odd-eq0 : goal.returns-then-odd-eq0
returns-then-odd-eq0 c = λ edges mark counted some none. limit_none edges mark (subst (HasOddCount edges mark) c.if-odd-eq0.true counted)

pub returns-then-has_outer : goal.returns-then-has_outer
returns-then-has_outer c = λ edges mark counted some none. limit_outer edges mark c.args.odd counted (some c.if-has_outer.true)

pub returns-else-has_outer : goal.returns-else-has_outer
returns-else-has_outer c = λ edges mark counted some none. limit_inner edges mark c.args.odd (omega (arith, c.if-odd-eq0.false)) counted (none c.if-has_outer.false)
