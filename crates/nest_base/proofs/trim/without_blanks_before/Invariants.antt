use Rattle.std.proofs.Common.{◌≡◌, length}
use Rattle.nest_base.specs.Lines.{without_blanks_before}
use Rattle.nest_base.proofs.trim.without_blanks_before.Given as goal

abbrev pub invariant-loop-first : goal.invariant-loop-first
invariant-loop-first l = without_blanks_before l.rest ≡ without_blanks_before l.text

abbrev pub decreases-loop-first : goal.decreases-loop-first
decreases-loop-first l = length l.rest
