use Rattle.half_edges.specs.Runs.{NumbersRotation}
use Rattle.half_edges.proofs.layout.number_rotation.Given as goal

abbrev pub invariant-loop-k : goal.invariant-loop-k
invariant-loop-k l = record {
  origins : NumbersRotation (λ k. l.v) l.rotation l.k l.fn.origins l.origins;
  positions : NumbersRotation (λ k. k) l.rotation l.k l.fn.positions l.positions;
}
