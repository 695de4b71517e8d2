-- What is read of the numbers in a list.
use Rattle.std.proofs.Common.{arith, ◌≡◌, ℕ, ◌<◌, List, length, get_or, sym, ap, ◌∙◌}
use Rattle.std.specs.Prelude.{Some, slice_get}
use Rattle.std.proofs.lemmas.List.{get_or-map}
use Rattle.std.proofs.lemmas.Option.{slice_get-get_or}
use Rattle.nest_base.specs.declared.numbers.Component.{Component}
use Rattle.nest_base.specs.declared.numbers.Side.{Side}
use Rattle.nest_base.specs.NumberLists.{component_numbers, side_numbers}
use Rattle.nest_base.proofs.NumberLists.{length-side_numbers}
use Rattle.half_edges.specs.Floods.{component_at, none}

abbrev number : Component → ℕ
number c = c.0

abbrev side : Side → ℕ
side s = s.0

pub component_read : (components : List Component) (v : ℕ) (c : Component) → v < length components → c ≡ get_or components v c → component_at (component_numbers components) v ≡ c.0
component_read components v c within is = get_or-map number components v c none within ∙ ap number (sym is)

pub side_read : (sides : List Side) (i : ℕ) (d : Side) → i < length sides → slice_get (side_numbers sides) i ≡ Some (get_or sides i d).0
side_read sides i d within = slice_get-get_or (side_numbers sides) i 0 (omega (arith, length-side_numbers sides)) ∙ ap Some (get_or-map side sides i d 0 within)
