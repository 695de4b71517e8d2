-- The outer sides of a component, and which of them leave odd vertices.
use Rattle.std.proofs.Common.{arith, ◌≡◌, ℕ, ◌+◌, ◌<◌, inl, inr, List, length, refl, sym, ap, subst, ◌∙◌}
use Rattle.std.specs.Prelude.{Some, slice_get, slice_index_or}
use Rattle.std.proofs.lemmas.Bool.{cases_eq}
use Rattle.std.proofs.lemmas.Option.{slice_get_within, slice_get-get_or}
use Rattle.nest_base.specs.declared.places.Point.{Point}
use Rattle.nest_base.specs.declared.places.Edge.{Edge}
use Rattle.nest_base.specs.declared.numbers.Side.{Side}
use Rattle.plate_sides.specs.HalfEdges.{IsVertex}
use Rattle.plate_sides.specs.Components.{SameComponent}
use Rattle.plate_sides.specs.Links.{IsOuterVertex}
use Rattle.plate_nesting.proofs.Components.{outer_side_is_in}
use Rattle.plate_sides.specs.Odd.{IsOdd}
use Rattle.plate_sides.specs.Starts.{HasOddOuter}
use Rattle.half_edges.specs.Numbers.{half_edges_of, IsSide}
use Rattle.half_edges.specs.Graph.{Graph, origin_of}
use Rattle.half_edges.specs.PlaneGraphs.{IsPlaneGraph}
use Rattle.nest_base.proofs.ListReads.{read_below, one_read, read-map, Contains-from_read, read_from_Contains}
use Rattle.nest_base.specs.NumberLists.{side_numbers}
use Rattle.face_nesting.specs.Nesting.{AreOuterSides}
use Rattle.face_nesting.proofs.Zips.{zip_second}
use Rattle.cover_plan.proofs.OuterNumbers.{vertex_told}

-- the number of the half-edge at a place
pub number_at : (sides : List Side) (k : ℕ) (d : Side) → k < length sides → slice_get (side_numbers sides) k ≡ Some (slice_index_or sides k d).0
number_at sides k d within = read-map (λ (s : Side). s.0) sides k (slice_index_or sides k d) (slice_get-get_or sides k d within)

-- outer sides are half-edges
pub outer_below : (edges : List Edge) (mark : Point) (sides : List ℕ) → AreOuterSides edges mark sides → (k s : ℕ) → slice_get sides k ≡ Some s →
    s < length (half_edges_of edges)
outer_below edges mark sides are k s at =
    let h = zip_second (IsSide edges) sides are.0 k s are.1 at in
    slice_get_within (half_edges_of edges) s h.0 h.2

-- the vertex that a half-edge leaves isn't odd
abbrev pub LeavesNoOdd : Graph → ℕ → Type 0
LeavesNoOdd graph s = (p : Point) → slice_get graph.vertices (origin_of graph s) ≡ Some p → IsOdd graph.edges p → ⊥

-- nor are those that the first n of these half-edges leave
abbrev pub NoneIsOdd : Graph → List ℕ → ℕ → Type 0
NoneIsOdd graph sides n = (k s : ℕ) → k < n → slice_get sides k ≡ Some s → LeavesNoOdd graph s

pub none_more : (graph : Graph) (sides : List ℕ) (n s : ℕ) → slice_get sides n ≡ Some s → NoneIsOdd graph sides n → LeavesNoOdd graph s → NoneIsOdd graph sides (n + 1)
none_more graph sides n s at none even k t less at_t = elim (cases_eq k n) [
  | inl last ↦ subst (LeavesNoOdd graph) (one_read sides n s t at (ap (slice_get sides) (sym last) ∙ at_t)) even
  | inr before ↦ none k t (omega (arith, less, before)) at_t
]

module _ {graph : Graph} (is : IsPlaneGraph graph) (mark : Point) (sides : List ℕ) (are : AreOuterSides graph.edges mark sides) where
  -- an outer side that leaves an odd vertex
  pub odd_outer : (k s : ℕ) → slice_get sides k ≡ Some s → ((p : Point) → slice_get graph.vertices (origin_of graph s) ≡ Some p → IsOdd graph.edges p) → HasOddOuter graph.edges mark
  odd_outer k s at odd =
      let p = read_below graph.vertices (origin_of graph s) (is.below s (outer_below graph.edges mark sides are k s at)) in
      let outer : IsOuterVertex graph.edges mark p.0 = (vertex_told is mark sides are (origin_of graph s) p.0 p.1).1 (s, Contains-from_read sides k s at, refl) in
      let inside = outer_side_is_in graph.edges mark outer.0 outer.1 in
      (p.0, subst (λ v. SameComponent graph.edges v mark) outer.2 inside.1, odd p.0 p.1, outer)

  -- where none leaves one, no outer vertex is odd
  pub none_outer : NoneIsOdd graph sides (length sides) → HasOddOuter graph.edges mark → ⊥
  none_outer none (p, joined, odd, outer) =
      let vertex : IsVertex graph.edges p = (outer.0, ((outer_side_is_in graph.edges mark outer.0 outer.1).0, outer.2)) in
      let v = read_from_Contains graph.vertices p ((is.are_vertices.are_all p).1 vertex) in
      let s = (vertex_told is mark sides are v.0 p v.1).0 outer in
      let k = read_from_Contains sides s.0 s.1 in
      none k.0 s.0 (slice_get_within sides k.0 s.0 k.1) k.1 p (ap (slice_get graph.vertices) s.2 ∙ v.1) odd
