-- Cycles of a graph, those of its mark sides first, beside what its components see: which component each lies in.
use Rattle.std.proofs.Common.{arith, ◌≡◌, ℕ, ◌<◌, ◌≤◌, List, Option, length, length-append, inl, inr, ap, ◌∙◌}
use Rattle.std.specs.Prelude.{All, AllPairs, Some, slice_get, slice_index}
use Rattle.std.proofs.lemmas.Bool.{cases_order}
use Rattle.std.proofs.lemmas.Option.{slice_get_within, get_or_from_slice_get}
use Rattle.std.proofs.lemmas.Slice.Zip.{AllZip-long}
use Rattle.nest_base.specs.declared.places.Point.{Point}
use Rattle.nest_base.specs.Plane.{HalfEdge}
use Rattle.nest_base.specs.Order.{IsMarkedBefore}
use Rattle.nest_base.specs.Limits.{most_half_edges}
use Rattle.nest_base.proofs.Orders.{IsMarkedBefore-asym, IsMarkedBefore-irrefl}
use Rattle.plate_sides.specs.Links.{IsSeen}
use Rattle.plate_sides.specs.Nesting.{IsParent}
use Rattle.plate_nesting.proofs.Sights.{parent_comes_before}
use Rattle.half_edges.specs.Numbers.{half_edges_of, IsSide}
use Rattle.half_edges.specs.PlaneGraphs.{IsPlaneGraph}
use Rattle.half_edges.specs.Graph.{Graph, rotations_of, origin_of, component_of}
use Rattle.nest_base.proofs.ListReads.{one_read, AllPairs-reads, All-from_reads, read_below, read-front}
use Rattle.face_nesting.specs.Cycles.{AreAllCycles}
use Rattle.face_nesting.specs.Sights.{IsMarkSideOf, AreMarkSides, IsSight, AreSights}
use Rattle.face_nesting.specs.Numbering.{SeesEarlier}
use Rattle.face_nesting.proofs.Zips.{zip_first, zip_second}
use Rattle.face_nesting.proofs.CycleMembers.{heads, number_of, side_within, head_numbered, number_below, members_keep, few_cycles}
use Rattle.face_nesting.proofs.KnownGraph.{few_sides, is_mark_at, component_along}
use Rattle.face_nesting.proofs.MarkSideComponents.{mark_side_component}

-- what is found of a graph
pub record AreFound (graph : Graph) (mark_sides cycle_of sides starts : List ℕ) (sights : List (Option ℕ)) : Type 0 where
  pub known : IsPlaneGraph graph
  pub are_mark_sides : AreMarkSides graph.edges graph.marks mark_sides
  pub are_cycles : AreAllCycles (rotations_of graph) mark_sides cycle_of sides starts
  pub are_sights : AreSights graph.edges graph.marks sights

-- of marks in order, what comes before another has the lesser number
earlier_number : (marks : List Point) (p c : ℕ) (outer mark : Point) → AllPairs IsMarkedBefore marks → slice_get marks p ≡ Some outer → slice_get marks c ≡ Some mark →
    IsMarkedBefore outer mark → p < c
earlier_number marks p c outer mark in_order at_p at_c before = elim (cases_order p c) [
  | inl same ↦ absurd (IsMarkedBefore-irrefl outer mark before (one_read marks p outer mark at_p (ap (slice_get marks) same ∙ at_c)))
  | inr (inl less) ↦ less
  | inr (inr more) ↦ absurd (IsMarkedBefore-asym outer mark before (AllPairs-reads IsMarkedBefore marks c p mark outer in_order more at_c at_p))
]

module _ {graph : Graph} {mark_sides cycle_of sides starts : List ℕ} {sights : List (Option ℕ)} (found : AreFound graph mark_sides cycle_of sides starts sights) where
  pub as_many_mark_sides : length mark_sides ≡ length graph.marks
  as_many_mark_sides = AllZip-long (IsMarkSideOf graph.edges) graph.marks mark_sides found.are_mark_sides

  pub as_many_sights : length sights ≡ length graph.marks
  as_many_sights = AllZip-long (IsSight graph.edges) graph.marks sights found.are_sights

  -- the cycle of a component begins with its mark side
  pub mark_side_heads : (c s : ℕ) → slice_get mark_sides c ≡ Some s → slice_get (heads found.are_cycles) c ≡ Some s
  mark_side_heads c s at = read-front mark_sides found.are_cycles.rest c (slice_get_within mark_sides c s at) ∙ at

  pub mark_side_numbered : (c s : ℕ) → slice_get mark_sides c ≡ Some s → slice_get cycle_of s ≡ Some c
  mark_side_numbered c s at = head_numbered found.are_cycles c s (mark_side_heads c s at)

  -- and lies in it
  pub cycle_component : (s c : ℕ) → slice_get cycle_of s ≡ Some c → c < length graph.marks → component_of graph (origin_of graph s) ≡ c
  cycle_component s c at below =
      let side = read_below mark_sides c (omega (arith, below, as_many_mark_sides)) in
      members_keep found.are_cycles (λ t. component_of graph (origin_of graph t) ≡ c) c side.0 (mark_side_heads c side.0 side.1)
      (mark_side_component found.known mark_sides found.are_mark_sides c side.0 side.1)
      (λ t is same. component_along found.known t (side_within found.are_cycles t c is) ∙ same) s at

  pub sight_at : (c : ℕ) (sight : Option ℕ) → slice_get sights c ≡ Some sight → (mark : Point) × (slice_get graph.marks c ≡ Some mark) × IsSight graph.edges mark sight
  sight_at c sight at = zip_first (IsSight graph.edges) graph.marks sights c sight found.are_sights at

  pub sight_of : (c : ℕ) (mark : Point) → slice_get graph.marks c ≡ Some mark → (sight : Option ℕ) × (slice_get sights c ≡ Some sight) × IsSight graph.edges mark sight
  sight_of c mark at = zip_second (IsSight graph.edges) graph.marks sights c mark found.are_sights at

  -- what a component sees lies in one that comes earlier: its parent
  pub seen_in_parent : (c u : ℕ) (mark : Point) (d : HalfEdge) → slice_get graph.marks c ≡ Some mark → IsSide graph.edges u d → IsSeen graph.edges mark d →
      (outer : Point) × (slice_get graph.marks (component_of graph (origin_of graph u)) ≡ Some outer) × IsParent graph.edges mark outer × (component_of graph (origin_of graph u) < c)
  seen_in_parent c u mark d at is seen =
      let component = found.known.components u d is in
      let p = component_of graph (origin_of graph u) in
      let parent : IsParent graph.edges mark component.0 = (d, seen, is_mark_at found.known p component.0 component.1, component.2) in (
        component.0,
        component.1,
        parent,
        earlier_number graph.marks p c component.0 mark found.known.are_marks.in_order component.1 at (parent_comes_before graph.edges mark component.0 parent),
      )

  pub seen_below : (c u : ℕ) → slice_get sights c ≡ Some (Some u) → u < length (half_edges_of graph.edges)
  seen_below c u at = let sight = sight_at c (Some u) at in slice_get_within (half_edges_of graph.edges) u sight.2.0 sight.2.1

  -- the cycle of what is seen is earlier, or lies inside a component
  pub seen_cycle_is_earlier : (c u q : ℕ) → slice_get sights c ≡ Some (Some u) → slice_get cycle_of u ≡ Some q → q < length graph.marks → q < c
  seen_cycle_is_earlier c u q at is below =
      let sight = sight_at c (Some u) at in
      let parent = seen_in_parent c u sight.0 sight.2.0 sight.1 sight.2.1 sight.2.2 in
      omega (arith, parent.3, cycle_component u q is below)

  pub sees_earlier : SeesEarlier cycle_of sights (length sights)
  sees_earlier c u at below =
      let q = number_of found.are_cycles u (seen_below c u at) in
      let number : slice_index cycle_of u ≡ q.0 = get_or_from_slice_get cycle_of u q.0 0 q.1 in
      let less = seen_cycle_is_earlier c u q.0 at q.1 (omega (arith, below, number, as_many_sights)) in
      omega (arith, less, number)

  -- numbers that calls want to be small
  pub few_components : length sights ≤ most_half_edges
  few_components = omega (
    arith,
    as_many_sights,
    as_many_mark_sides,
    length-append mark_sides found.are_cycles.rest,
    few_sides found.known,
    few_cycles found.are_cycles,
    AllZip-long _ _ _ found.are_cycles.are_cycles.each,
  )

  pub few_cycle_numbers : All (λ r. r < most_half_edges) cycle_of
  few_cycle_numbers = All-from_reads (λ r. r < most_half_edges) cycle_of
      (λ s r at. omega (arith, number_below found.are_cycles s r at, few_cycles found.are_cycles, few_sides found.known))

  pub seen_sides : All (λ sight. (u : ℕ) → sight ≡ Some u → u < length (half_edges_of graph.edges)) sights
  seen_sides = All-from_reads (λ sight. (u : ℕ) → sight ≡ Some u → u < length (half_edges_of graph.edges)) sights (λ c sight at u is. seen_below c u (at ∙ ap Some is))

  pub seen_below_all : All (λ sight. (u : ℕ) → sight ≡ Some u → u < length cycle_of) sights
  seen_below_all = rw found.are_cycles.are_cycles.as_many seen_sides
