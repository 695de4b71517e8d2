use Rattle.std.proofs.Common.{◌≡◌, ◌++◌, take, codes, flat_map}
use Rattle.cover_plan.specs.Trails.{half_edge_of}
use Rattle.code_moves.specs.CodeText.{motion_text}
use Rattle.ngc_writer.proofs.code.write_burns.Given as goal

-- the lines of the half-edges so far
abbrev pub invariant-loop-s : goal.invariant-loop-s
invariant-loop-s l = l.out ≡ l.fn.out ++ flat_map (λ s. motion_text (codes "G1") (half_edge_of l.graph s.0).to) (take l.s-index l.chain)
