-- Half-edges as they leave their vertices, in the order in which they are sorted.
use Rattle.std.specs.Prelude.{◌≡◌, ℕ, ◌*◌, ◌<◌, List, length, slice_get, Some}
use Rattle.std.specs.declared.cmp.Ordering.{Ordering}
use Rattle.std.specs.Ordering.{ordering_then, nat_cmp}
use Rattle.nest_base.specs.declared.places.Point.{Point}
use Rattle.nest_base.specs.declared.places.Edge.{Edge}
use Rattle.nest_base.specs.Plane.{HalfEdge, direction}
use Rattle.nest_base.specs.Angles.{angle_cmp}
use Rattle.half_edges.specs.declared.rotation.Spoke.{Spoke}
use Rattle.half_edges.specs.Marks.{mark_order, mark_cmp}
use Rattle.half_edges.specs.Numbers.{IsSide}

-- the spoke with this number from one place to another
abbrev pub spoke_between : Point → Point → ℕ → Spoke
spoke_between from to number = record {
  at = mark_order from;
  toward = record { 0 = direction from to };
  side = record { 0 = number };
}

-- by number the half-edges of the first n edges
pub record AreFirstSpokes (edges : List Edge) (n : ℕ) (spokes : List Spoke) : Type 0 where
  pub long : length spokes ≡ 2 * n
  pub stands : (s : ℕ) (h : HalfEdge) → s < 2 * n → IsSide edges s h → slice_get spokes s ≡ Some (spoke_between h.from h.to s)

-- by number all half-edges
abbrev pub AreSpokes : List Edge → List Spoke → Type 0
AreSpokes edges spokes = AreFirstSpokes edges (length edges) spokes

-- by place in the order of mark vertices, then by angle, then by number
abbrev pub spoke_cmp : Spoke → Spoke → Ordering
spoke_cmp a b =
    ordering_then (mark_cmp a.at b.at) (ordering_then (angle_cmp a.toward.0 b.toward.0) (nat_cmp a.side.0 b.side.0))
