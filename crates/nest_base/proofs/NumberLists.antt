-- The numbers of half-edges, vertices and components in a list.
use Rattle.std.proofs.Common.{◌≡◌, ℕ, List, [], ◌∷◌, ◌++◌, length, set}
use Rattle.std.proofs.lemmas.List.{length-map, map-set, map_push}
use Rattle.nest_base.specs.declared.numbers.Component.{Component}
use Rattle.nest_base.specs.declared.numbers.Side.{Side}
use Rattle.nest_base.specs.declared.numbers.VertexId.{VertexId}
use Rattle.nest_base.specs.NumberLists.{component_numbers, vertex_numbers, side_numbers}

abbrev component_number : Component → ℕ
component_number c = c.0

abbrev vertex_number : VertexId → ℕ
vertex_number v = v.0

abbrev pub side_number : Side → ℕ
side_number s = s.0

pub length-component_numbers : (components : List Component) → length (component_numbers components) ≡ length components
length-component_numbers components = length-map components component_number

pub length-vertex_numbers : (vertices : List VertexId) → length (vertex_numbers vertices) ≡ length vertices
length-vertex_numbers vertices = length-map vertices vertex_number

pub length-side_numbers : (sides : List Side) → length (side_numbers sides) ≡ length sides
length-side_numbers sides = length-map sides side_number

-- what a write and a push make
pub component_numbers-set : (components : List Component) (v : ℕ) (c : Component) → component_numbers (set components v c) ≡ set (component_numbers components) v c.0
component_numbers-set components v c = map-set component_number components v c

pub vertex_numbers-push : (found : List VertexId) (v : VertexId) → vertex_numbers (found ++ v ∷ []) ≡ vertex_numbers found ++ v.0 ∷ []
vertex_numbers-push found v = map_push vertex_number found v

pub side_numbers-push : (sides : List Side) (s : Side) → side_numbers (sides ++ s ∷ []) ≡ side_numbers sides ++ s.0 ∷ []
side_numbers-push sides s = map_push side_number sides s
