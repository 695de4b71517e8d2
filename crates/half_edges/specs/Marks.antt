-- Places compared in the order of mark vertices.
use Rattle.std.specs.declared.cmp.Ordering.{Ordering}
use Rattle.std.specs.Ordering.{ordering_then, int_cmp}
use Rattle.nest_base.specs.declared.places.Point.{Point}
use Rattle.half_edges.specs.declared.mark_order.MarkOrder.{MarkOrder}

abbrev pub mark_order : Point → MarkOrder
mark_order p = record { x = p.x; y = record { 0 = p.y } }

-- the least x first, then the greatest y
abbrev pub mark_cmp : MarkOrder → MarkOrder → Ordering
mark_cmp a b = ordering_then (int_cmp a.x b.x) (int_cmp b.y.0 a.y.0)
