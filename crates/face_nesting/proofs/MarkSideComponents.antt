-- The mark sides of a graph: each lies in its component, so no two stand on one cycle.
use Rattle.std.proofs.Common.{arith, ◌≡◌, ℕ, zero, suc, ◌<◌, List, length, refl, sym, subst, ◌∙◌}
use Rattle.std.specs.Prelude.{All, AllPairs, Some, slice_get}
use Rattle.std.proofs.lemmas.Option.{slice_get_within}
use Rattle.nest_base.specs.declared.places.Point.{Point}
use Rattle.nest_base.specs.Plane.{HalfEdge}
use Rattle.nest_base.specs.Walks.{here}
use Rattle.nest_base.proofs.Walks.{Walk-keeps}
use Rattle.plate_sides.specs.Components.{SameComponent}
use Rattle.plate_sides.specs.Links.{IsMarkSide}
use Rattle.plate_sides.specs.Nesting.{HasMarkSides}
use Rattle.plate_nesting.proofs.Alongs.{mark_side_is_one}
use Rattle.half_edges.specs.Numbers.{half_edges_of, IsSide}
use Rattle.rotation_systems.specs.RotationSystem.{RotationSystem, along}
use Rattle.half_edges.specs.PlaneGraphs.{IsPlaneGraph}
use Rattle.half_edges.specs.Graph.{Graph, rotations_of, origin_of, component_of}
use Rattle.nest_base.proofs.ListReads.{AllPairs-from_reads, All-from_reads}
use Rattle.face_nesting.specs.Cycles.{OnOneCycle}
use Rattle.face_nesting.specs.Sights.{IsMarkSideOf, AreMarkSides}
use Rattle.face_nesting.proofs.Zips.{zip_first, zip_second}
use Rattle.face_nesting.proofs.KnownGraph.{along_below, component_along, component_is, mark_number}

-- n half-edges on
abbrev later : RotationSystem → ℕ → ℕ → ℕ
later g zero s = s
later g (suc n) s = later g n (along g s)

module _ {graph : Graph} (known : IsPlaneGraph graph) where
  -- s comes, maybe from outside the numbers of half-edges, to one of the component c
  abbrev ComesTo : ℕ → ℕ → Type 0
  ComesTo c s =
      (n : ℕ) × (later (rotations_of graph) n s < length (half_edges_of graph.edges)) × (component_of graph (origin_of graph (later (rotations_of graph) n s)) ≡ c)

  comes_on : (c s : ℕ) → ComesTo c s → ComesTo c (along (rotations_of graph) s)
  comes_on c s (zero, below, is) = (zero, along_below known s below, component_along known s below ∙ is)
  comes_on c s (suc n, below, is) = (n, below, is)

  comes_from : (c s : ℕ) → ComesTo c (along (rotations_of graph) s) → ComesTo c s
  comes_from c s (n, below, is) = (suc n, below, is)

  component_later : (n s : ℕ) → s < length (half_edges_of graph.edges) → component_of graph (origin_of graph (later (rotations_of graph) n s)) ≡ component_of graph (origin_of graph s)
  component_later zero s below = refl
  component_later (suc n) s below = component_later n (along (rotations_of graph) s) (along_below known s below) ∙ component_along known s below

  -- half-edges of one cycle lie in one component
  one_component : (s t : ℕ) → s < length (half_edges_of graph.edges) → t < length (half_edges_of graph.edges) → OnOneCycle (rotations_of graph) s t →
      component_of graph (origin_of graph s) ≡ component_of graph (origin_of graph t)
  one_component s t below_s below_t walk =
      let c = component_of graph (origin_of graph t) in
      let comes : ComesTo c s = Walk-keeps (ComesTo c) (λ a b link. (λ is. subst (ComesTo c) link (comes_on c a is), λ is. comes_from c a (subst (ComesTo c) (sym link) is))) walk (zero, below_t, refl) in
      sym (component_later comes.0 s below_s) ∙ comes.2

  module _ (mark_sides : List ℕ) (are : AreMarkSides graph.edges graph.marks mark_sides) where
    pub mark_side_at : (c s : ℕ) → slice_get mark_sides c ≡ Some s → (mark : Point) × (slice_get graph.marks c ≡ Some mark) × IsMarkSideOf graph.edges mark s
    mark_side_at c s at = zip_first (IsMarkSideOf graph.edges) graph.marks mark_sides c s are at

    pub mark_side_of : (c : ℕ) (mark : Point) → slice_get graph.marks c ≡ Some mark → (s : ℕ) × (slice_get mark_sides c ≡ Some s) × IsMarkSideOf graph.edges mark s
    mark_side_of c mark at = zip_second (IsMarkSideOf graph.edges) graph.marks mark_sides c mark are at

    pub mark_side_below : (c s : ℕ) → slice_get mark_sides c ≡ Some s → s < length (half_edges_of graph.edges)
    mark_side_below c s at = let side = mark_side_at c s at in slice_get_within (half_edges_of graph.edges) s side.2.0 side.2.1

    -- it lies in its component
    pub mark_side_component : (c s : ℕ) → slice_get mark_sides c ≡ Some s → component_of graph (origin_of graph s) ≡ c
    mark_side_component c s at =
        let side = mark_side_at c s at in
        let joined : SameComponent graph.edges side.2.0.from side.0 = subst (SameComponent graph.edges side.2.0.from) side.2.3 here in
        component_is known s c side.2.0 side.0 side.2.1 side.1 (side.2.2.is_side, joined)

    pub mark_sides_below : All (λ s. s < length (half_edges_of graph.edges)) mark_sides
    mark_sides_below = All-from_reads (λ s. s < length (half_edges_of graph.edges)) mark_sides mark_side_below

    -- no two stand on one cycle
    pub mark_sides_apart : AllPairs (λ s t. OnOneCycle (rotations_of graph) s t → ⊥) mark_sides
    mark_sides_apart = AllPairs-from_reads (λ s t. OnOneCycle (rotations_of graph) s t → ⊥) mark_sides (λ i j s t less at_s at_t walk.
        let same = one_component s t (mark_side_below i s at_s) (mark_side_below j t at_t) walk in
        omega (arith, less, mark_side_component i s at_s, same, mark_side_component j t at_t))

    -- each component has one
    pub has_mark_sides : HasMarkSides graph.edges
    has_mark_sides mark is =
        let c = mark_number known mark is in
        let side = mark_side_of c.0 mark c.1 in
        (side.2.0, side.2.2, side.2.3)

    -- and a mark side stands at the number of its component
    pub mark_side_number : (m : HalfEdge) → IsMarkSide graph.edges m → (c s : ℕ) × (slice_get graph.marks c ≡ Some m.from) × (slice_get mark_sides c ≡ Some s) × IsSide graph.edges s m
    mark_side_number m is =
        let c = mark_number known m.from is.mark in
        let side = mark_side_of c.0 m.from c.1 in
        let same = mark_side_is_one graph.edges known.ends_in_order known.apart side.2.0 m side.2.2 is side.2.3 in
        (c.0, side.0, c.1, side.1, subst (IsSide graph.edges side.0) same side.2.1)
