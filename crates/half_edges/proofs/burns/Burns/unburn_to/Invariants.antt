use Rattle.std.proofs.Common.{◌≡◌, ℕ, ◌≤◌, length, take}
use Rattle.half_edges.specs.Burns.{Burning}
use Rattle.half_edges.proofs.burns.Burns.unburn_to.Given as goal

-- of the edges that were burnt the first ones are burnt still
pub record AreLeft (old now : Burning) (mark : ℕ) : Type 0 where
  pub edges : now.edges ≡ old.edges
  pub burnt : now.burnt ≡ take (length now.burnt) old.burnt
  pub enough : mark ≤ length now.burnt

abbrev pub invariant-loop-self : goal.invariant-loop-self
invariant-loop-self l = AreLeft l.initial.self l.self l.mark

abbrev pub decreases-loop-self : goal.decreases-loop-self
decreases-loop-self l = length l.self.burnt
