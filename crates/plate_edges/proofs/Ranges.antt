-- The edges lie as near to the origin as the segments.
use Rattle.std.proofs.Common.{arith, ℕ, ℤ, inl, inr}
use Rattle.std.proofs.lemmas.Int.{ints}
use Rattle.std.proofs.lemmas.List.Elements.{All-contains}
use Rattle.nest_base.specs.declared.places.Point.{Point}
use Rattle.nest_base.specs.declared.places.Segment.{Segment}
use Rattle.nest_base.specs.Plane.{rational, IsOn, IsBetween}
use Rattle.nest_base.specs.Range.{IsNear, IsWithin, IsSegmentWithin, IsEdgeWithin}
use Rattle.nest_base.proofs.Lists.{All-from_contains}
use Rattle.nest_base.proofs.Points.{across_place, up_place}
use Rattle.plate_edges.specs.Edges.{IsEdge}
use Rattle.plate_edges.specs.Laws.{EdgesStayWithin}

near_between : (n : ℕ) (a m b : ℤ) → IsNear n a → IsNear n b → IsBetween a m b → IsNear n m
near_between n a m b h k (inl l) = (omega (arith, ints, h, l), omega (arith, ints, k, l))
near_between n a m b h k (inr l) = (omega (arith, ints, k, l), omega (arith, ints, h, l))

-- what lies on a segment lies as near to the origin as its ends
pub on_within : (n : ℕ) (s : Segment) (q : Point) → IsSegmentWithin n s → IsOn (rational q) s.a s.b → IsWithin n q
on_within n s q within on = record {
  x = near_between n s.a.x q.x s.b.x within.a.x within.b.x (across_place q s.a s.b on);
  y = near_between n s.a.y q.y s.b.y within.a.y within.b.y (up_place q s.a s.b on);
}

pub stay_within : EdgesStayWithin
stay_within n segments edges within all =
    All-from_contains (IsEdgeWithin n) edges
    (λ e c. let edge : IsEdge segments e = (all.are_all e).0 c in
    let s : Segment = edge.piece.0 in
    let near : IsSegmentWithin n s = All-contains (IsSegmentWithin n) segments s within edge.piece.1 in
    record { low = on_within n s e.low near edge.piece.2.low_cut.0; high = on_within n s e.high near edge.piece.2.high_cut.0 })
