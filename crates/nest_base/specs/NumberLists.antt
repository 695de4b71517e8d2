-- The numbers of what stands in lists.
use Rattle.std.specs.Prelude.{ℕ, List, Option, map, option_map}
use Rattle.nest_base.specs.declared.numbers.Side.{Side}
use Rattle.nest_base.specs.declared.numbers.VertexId.{VertexId}
use Rattle.nest_base.specs.declared.numbers.Component.{Component}

abbrev pub side_numbers : List Side → List ℕ
side_numbers sides = map (λ (s : Side). s.0) sides

abbrev pub vertex_numbers : List VertexId → List ℕ
vertex_numbers vertices = map (λ (v : VertexId). v.0) vertices

abbrev pub component_numbers : List Component → List ℕ
component_numbers components = map (λ (c : Component). c.0) components

-- of components that may be missing
abbrev pub parent_numbers : List (Option Component) → List (Option ℕ)
parent_numbers parents = map (λ parent. option_map (λ (c : Component). c.0) parent) parents
