use Rattle.std.proofs.Common.{◌≡◌, ◌++◌, take, map, flat_map}
use Rattle.plate_sides.specs.Paths.{paths_of}
use Rattle.cover_plan.specs.Trails.{half_edge_of}
use Rattle.code_moves.specs.CodeText.{head_text, chain_text}
use Rattle.ngc_writer.proofs.code.write_code.Given as goal

-- the head, and the lines of the chains so far
abbrev pub invariant-loop-i : goal.invariant-loop-i
invariant-loop-i l = l.code ≡ head_text ++ flat_map chain_text (paths_of (take l.i l.leads) (map (map (half_edge_of l.graph)) (take l.i l.plan)))
