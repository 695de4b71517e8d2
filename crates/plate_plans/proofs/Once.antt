-- Edges that meet at ends only are each listed once.
use Rattle.std.proofs.Common.{arith, ◌≡◌, ◌≢◌, inl, inr, List, get_or, subst}
use Rattle.std.specs.Prelude.{All, AllPairs}
use Rattle.nest_base.specs.declared.places.Edge.{Edge}
use Rattle.nest_base.specs.Plane.{RationalPoint, IsOn}
use Rattle.nest_base.specs.Order.{IsBefore}
use Rattle.nest_base.proofs.Orders.{IsBefore-irrefl}
use Rattle.plate_edges.specs.Points.{EdgesMeetAtEndsOnly}
use Rattle.plate_edges.proofs.Places.{middle, on_middle, middle_at_first, middle_at_last}

-- no edge stands twice
pub edges_once : (edges : List Edge) → All (λ (e : Edge). IsBefore e.low e.high) edges → AllPairs EdgesMeetAtEndsOnly edges → AllPairs (λ e f. e ≢ f) edges
edges_once edges in_order apart i j d less within same =
    differ (get_or edges i d) (get_or edges j d) (in_order i d (omega arith)) (apart i j d less within) same
  where
    differ : (e f : Edge) → IsBefore e.low e.high → EdgesMeetAtEndsOnly e f → e ≡ f → ⊥
    differ e f before meet same =
        let p : RationalPoint = middle e.low e.high in
        let on_e : IsOn p e.low e.high = on_middle e.low e.high in
        elim (meet p on_e (subst (λ (g : Edge). IsOn p g.low g.high) same on_e)).0 [
          | inl low ↦ IsBefore-irrefl e.low e.high before (middle_at_first e.low e.high low)
          | inr high ↦ IsBefore-irrefl e.low e.high before (middle_at_last e.low e.high high)
        ]
