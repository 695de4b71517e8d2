use Rattle.std.proofs.Common.{◌≡◌, ◌++◌, ◌<◌, ℕ, List, true, take}
use Rattle.std.specs.Prelude.{Some, slice_get}
use Rattle.half_edges.specs.Graph.{rotations_of}
use Rattle.face_nesting.specs.Numbering.{cycle_numbers_of}
use Rattle.nest_base.specs.NumberLists.{side_numbers}
use Rattle.face_nesting.specs.Cycles.{AreCyclesOf, AreTold}
use Rattle.face_nesting.proofs.cycles.cycles_of.Given as goal

abbrev pub invariant-loop-first : goal.invariant-loop-first
invariant-loop-first l = record {
  cycles : AreCyclesOf (rotations_of l.graph) (side_numbers (take l.first-index l.firsts)) (cycle_numbers_of l.tracing.cycles.cycle_of.items) (side_numbers l.tracing.cycles.sides.items)
      l.tracing.cycles.starts.items;
  told : AreTold (rotations_of l.graph) l.tracing.is_traced.items (side_numbers l.tracing.cycles.sides.items);
}

abbrev pub invariant-loop-s : goal.invariant-loop-s
invariant-loop-s l = record {
  rest : List ℕ;
  cycles : AreCyclesOf (rotations_of l.graph) (side_numbers l.firsts ++ rest) (cycle_numbers_of l.tracing.cycles.cycle_of.items) (side_numbers l.tracing.cycles.sides.items) l.tracing.cycles.starts.items;
  told : AreTold (rotations_of l.graph) l.tracing.is_traced.items (side_numbers l.tracing.cycles.sides.items);
  behind : (t : ℕ) → t < l.s → slice_get l.tracing.is_traced.items t ≡ Some true;
}
