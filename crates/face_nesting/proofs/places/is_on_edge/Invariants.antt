use Rattle.std.proofs.Common.{take}
use Rattle.plate_parts.specs.Parts.{IsOnDrawing}
use Rattle.face_nesting.proofs.places.is_on_edge.Given as goal

abbrev pub invariant-loop-k : goal.invariant-loop-k
invariant-loop-k l = IsOnDrawing (take l.k l.graph.edges) l.p → ⊥
