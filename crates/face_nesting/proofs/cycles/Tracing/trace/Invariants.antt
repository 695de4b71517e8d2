use Rattle.std.proofs.Common.{◌≡◌, ◌-◌, length}
use Rattle.std.specs.Prelude.{Contains}
use Rattle.half_edges.specs.Graph.{rotations_of}
use Rattle.half_edges.specs.Numbers.{half_edges_of}
use Rattle.face_nesting.specs.Numbering.{cycle_numbers_of}
use Rattle.nest_base.specs.NumberLists.{side_numbers}
use Rattle.face_nesting.proofs.CycleTracing.{IsTracing}
use Rattle.face_nesting.proofs.cycles.Tracing.trace.Given as goal

abbrev pub invariant-loop-s : goal.invariant-loop-s
invariant-loop-s l = record {
  tracing : IsTracing (rotations_of l.graph) (side_numbers l.fn.self.cycles.sides.items) (cycle_numbers_of l.fn.self.cycles.cycle_of.items) l.first.0 l.cycle.0 l.s.0
      (side_numbers l.self.cycles.sides.items) (cycle_numbers_of l.self.cycles.cycle_of.items) l.self.is_traced.items;
  new : Contains (side_numbers l.self.cycles.sides.items) l.s.0 → ⊥;
  starts : l.self.cycles.starts.items ≡ l.fn.self.cycles.starts.items;
}

abbrev pub decreases-loop-s : goal.decreases-loop-s
decreases-loop-s l = length (half_edges_of l.graph.edges) - length l.self.cycles.sides.items
