use Rattle.std.proofs.Common.{length, take, ◌<◌}
use Rattle.std.specs.Prelude.{IfSome}
use Rattle.half_edges.specs.Numbers.{half_edges_of}
use Rattle.nest_base.specs.NumberLists.{side_numbers}
use Rattle.oe_cover.specs.Starts.{FirstOddIs}
use Rattle.oe_cover.proofs.start.first_odd.Given as goal

-- the first of those that the loop has passed
abbrev pub invariant-loop-s : goal.invariant-loop-s
invariant-loop-s l = record {
  first : FirstOddIs l.graph (side_numbers (take l.s-index l.sides)) l.first;
  within : IfSome l.first (λ s. s.0 < length (half_edges_of l.graph.edges));
}
