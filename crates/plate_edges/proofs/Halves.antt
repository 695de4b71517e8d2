-- A place inside a part halves it: a point of the part lies on one of the two halves.
use Rattle.std.proofs.Common.{◌≡◌, pos, ◌⊎◌, inl, inr, sym, subst}
use Rattle.nest_base.specs.declared.places.Point.{Point}
use Rattle.nest_base.specs.Plane.{RationalPoint, rational, scaled, numerators, IsOn}
use Rattle.nest_base.specs.Order.{IsBefore}
use Rattle.nest_base.proofs.Orders.{IsBefore-irrefl}
use Rattle.nest_base.proofs.Points.{on_first, on_last}
use Rattle.segment_meeting.specs.Orientation.{orientation}
use Rattle.plate_edges.specs.Edges.{IsInside}
use Rattle.plate_edges.proofs.Directions.{in_line, side-place}
use Rattle.plate_edges.proofs.Insides.{inside_in_line, between_inside, not_below, not_above}
use Rattle.plate_edges.proofs.Orders.{by_order}
use Rattle.plate_edges.proofs.Scaled.{scaled_before, scaled_line, on_scaled, on_unscaled}

-- q comes between a and b on their line
record IsWayPoint (a b q : Point) : Type 0 where
  line : orientation a b q ≡ pos 0
  low : IsBefore a q
  high : IsBefore q b

way_point : (a b q : Point) → IsBefore a b → IsInside (rational q) a b → IsWayPoint a b q
way_point a b q order inside = let between = between_inside a q b order inside in record { line = side-place a b q inside.0; low = between.0; high = between.1 }

-- a place p of the part that comes before q lies on the lower half
on_low_half : (a b q p : Point) → IsBefore a b → IsWayPoint a b q → IsOn (rational p) a b → IsBefore p q → IsOn (rational p) a q
on_low_half a b q p order way on less =
    by_order a p
    (λ above. (inside_in_line a p q (in_line a b a p q (IsBefore-irrefl a b order) (side-place a b a (on_first a b)) (side-place a b p on) way.line) above less).0)
    (λ same. subst (λ r. IsOn (rational r) a q) same (on_first a q))
    (λ below. absurd (not_below a p b order on below))

on_high_half : (a b q p : Point) → IsBefore a b → IsWayPoint a b q → IsOn (rational p) a b → IsBefore q p → IsOn (rational p) q b
on_high_half a b q p order way on more =
    by_order p b
    (λ below. (inside_in_line q p b (in_line a b q p b (IsBefore-irrefl a b order) way.line (side-place a b p on) (side-place a b b (on_last a b))) more below).0)
    (λ same. subst (λ r. IsOn (rational r) q b) (sym same) (on_last q b))
    (λ above. absurd (not_above a p b order on above))

on_half_place : (a b q p : Point) → IsBefore a b → IsWayPoint a b q → IsOn (rational p) a b → IsOn (rational p) a q ⊎ IsOn (rational p) q b
on_half_place a b q p order way on =
    by_order p q
    (λ less. inl (on_low_half a b q p order way on less))
    (λ same. inl (subst (λ r. IsOn (rational r) a q) (sym same) (on_last a q)))
    (λ more. inr (on_high_half a b q p order way on more))

pub on_half : (a b q : Point) (p : RationalPoint) → IsBefore a b → IsInside (rational q) a b → IsOn p a b → IsOn p a q ⊎ IsOn p q b
on_half a b q p order inside on =
    let way = way_point a b q order inside in
    let scaled_way : IsWayPoint (scaled a p.w) (scaled b p.w) (scaled q p.w) =
    record { line = scaled_line a b q p.w way.line; low = scaled_before a q p.w p.positive way.low; high = scaled_before q b p.w p.positive way.high } in
    elim (on_half_place (scaled a p.w) (scaled b p.w) (scaled q p.w) (numerators p) (scaled_before a b p.w p.positive order) scaled_way (on_scaled p a b on)) [
      | inl low ↦ inl (on_unscaled p a q low)
      | inr high ↦ inr (on_unscaled p q b high)
    ]
