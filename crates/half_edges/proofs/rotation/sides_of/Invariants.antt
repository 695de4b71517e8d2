use Rattle.std.proofs.Common.{◌≡◌, map, take}
use Rattle.half_edges.proofs.rotation.sides_of.Given as goal

abbrev pub invariant-loop-p : goal.invariant-loop-p
invariant-loop-p l = l.sides.items ≡ map (λ p. p.side) (take l.p-index l.spokes)
