-- What contracts see of the burnt edges, and what holds of their lists.
use Rattle.std.specs.Prelude.{◌≤◌, length, map}
use Rattle.std.specs.Vec.{vec_capacity}
use Rattle.half_edges.specs.declared.burns.Burns.TheInside.{Inside}
use Rattle.half_edges.specs.Burns.{Burning, AreFlagsOf}

abbrev pub burns_view : Inside → Burning
burns_view b = record { edges = length b.is_burnt.items; burnt = map (λ s. s.0) b.order.items }

pub record AreBurnLists (b : Inside) : Type 0 where
  pub flags : AreFlagsOf b.is_burnt.items (map (λ s. s.0) b.order.items)
  -- for every edge
  pub room : length b.is_burnt.items ≤ vec_capacity b.order
