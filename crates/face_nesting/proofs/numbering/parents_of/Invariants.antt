use Rattle.std.proofs.Common.{◌≡◌, map, take, option_map}
use Rattle.half_edges.specs.Graph.{component_of, origin_of}
use Rattle.face_nesting.specs.Numbering.{sight_numbers_of}
use Rattle.nest_base.specs.NumberLists.{parent_numbers}
use Rattle.face_nesting.proofs.numbering.parents_of.Given as goal

abbrev pub invariant-loop-sight : goal.invariant-loop-sight
invariant-loop-sight l =
    parent_numbers l.parents.items ≡ map (option_map (λ s. component_of l.graph (origin_of l.graph s))) (sight_numbers_of (take l.sight-index l.sights))
