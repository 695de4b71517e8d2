-- The cover of one component from a lawful start.
use Rattle.std.proofs.Common.{◌≡◌, ◌<◌, ℕ, List, length, sym, subst, ◌∙◌}
use Rattle.std.specs.Prelude.{◌↔◌, Some, slice_get}
use Rattle.nest_base.specs.declared.places.Point.{Point}
use Rattle.nest_base.specs.Plane.{HalfEdge}
use Rattle.plate_sides.specs.ComponentCovers.{IsComponentCover, LastEndsAt}
use Rattle.plate_sides.specs.Starts.{IsStart}
use Rattle.half_edges.specs.Numbers.{half_edges_of, IsSide}
use Rattle.half_edges.specs.Graph.{Graph, rotations_of, component_of, origin_of}
use Rattle.half_edges.specs.Burns.{with_burnt}
use Rattle.half_edges.specs.PlaneGraphs.{IsPlaneGraph}
use Rattle.nest_base.proofs.ListReads.{read_below}
use Rattle.face_nesting.specs.Nesting.{Nesting, AreOuterCycles, cycle_at}
use Rattle.cover_walks.specs.Orders.{Has}
use Rattle.cover_walks.specs.Chains.{chains_of}
use Rattle.cover_walks.specs.Covers.{IsCoverOrder}
use Rattle.cover_walks.proofs.Holdings.{has_inside, has_component}
use Rattle.cover_plan.proofs.CoverNumbers.{covers_are_component_covers, covers_end_at_their_start, component_of_start}
use Rattle.oe_cover.specs.Starts.{IsLawfulStart}
use Rattle.oe_cover.specs.Trails.{IsOf, trails_by}
use Rattle.oe_cover.proofs.FirstStarts.{cycle_below, may_start}

-- what is burnt doesn't matter
pub lawful_before : (o x : Graph) (cycle : List ℕ) (start : ℕ) → x ≡ with_burnt o x.burnt → IsLawfulStart x cycle start → IsLawfulStart o cycle start
lawful_before o x cycle start same is =
    let as_it_was : IsLawfulStart (with_burnt o x.burnt) cycle start = subst (λ graph. IsLawfulStart graph cycle start) same is in
    record { stands = as_it_was.stands; odd = as_it_was.odd }

-- a component with a lawful start
pub record HasStart (o : Graph) (faces : Nesting) (c start : ℕ) : Type 0 where
  pub plane : IsPlaneGraph o
  pub cycles : AreOuterCycles o faces
  pub within : c < length o.marks
  pub lawful : IsLawfulStart o (cycle_at faces c) start

module _ {o : Graph} {faces : Nesting} {c start : ℕ} (h : HasStart o faces c start) where
  pub start_below : start < length (half_edges_of o.edges)
  start_below = cycle_below o faces c start h.cycles h.within h.lawful.stands

  pub mark : (m : Point) × (slice_get o.marks c ≡ Some m)
  mark = read_below o.marks c h.within

  pub half : (s : HalfEdge) × IsSide o.edges start s
  half = read_below (half_edges_of o.edges) start start_below

  begins : (m : Point) → slice_get o.marks c ≡ Some m → IsStart o.edges m half.0
  begins m at = may_start o faces c start m half.0 h.plane h.cycles at half.1 h.lawful

  pub start_component : component_of o (origin_of o start) ≡ c
  start_component = component_of_start h.plane c mark.0 mark.1 start half.0 half.1 (begins mark.0 mark.1)

  module _ (order : List ℕ) (covers : IsCoverOrder (rotations_of o) (component_of o) start order) where
    pub component_cover : (m : Point) → slice_get o.marks c ≡ Some m → IsComponentCover o.edges m (trails_by o.edges (chains_of (rotations_of o) order))
    component_cover m at = covers_are_component_covers o h.plane c m at start half.0 half.1 (begins m at) order covers

    pub ends_there : (s : HalfEdge) → IsSide o.edges start s → LastEndsAt (trails_by o.edges (chains_of (rotations_of o) order)) s.from
    ends_there s side = covers_end_at_their_start o h.plane start s side order covers

    pub has_all : (s : ℕ) → Has (rotations_of o) order s ↔ IsOf o c s
    has_all s = (
      λ has. (
        has_inside (rotations_of o) h.plane.rotation (component_of o) (component_of o (origin_of o start)) order s covers.inside has,
        has_component (rotations_of o) h.plane.rotation (component_of o) (component_of o (origin_of o start)) h.plane.divides order s covers.inside has ∙ start_component,
      ),
      λ is. covers.whole s is.0 (is.1 ∙ sym start_component),
    )
