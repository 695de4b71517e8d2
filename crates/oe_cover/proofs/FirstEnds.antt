-- The first start of a component by number is one whose vertex comes first on the plate.
use Rattle.std.proofs.Common.{arith, ◌≡◌, ◌≤◌, ◌⊎◌, inl, inr, ℕ, List, refl, sym, ap, subst, ◌∙◌}
use Rattle.std.specs.Prelude.{Some, slice_get}
use Rattle.std.proofs.lemmas.Bool.{cases_order}
use Rattle.nest_base.specs.declared.places.Point.{Point}
use Rattle.nest_base.specs.Plane.{HalfEdge}
use Rattle.nest_base.specs.Order.{IsMarkedBefore}
use Rattle.plate_sides.specs.Components.{IsMark}
use Rattle.plate_sides.specs.Starts.{IsStart}
use Rattle.plate_nesting.proofs.Components.{outer_side_is_in}
use Rattle.half_edges.specs.Numbers.{IsSide}
use Rattle.half_edges.specs.Graph.{Graph, origin_of}
use Rattle.half_edges.specs.Burns.{with_burnt}
use Rattle.half_edges.specs.PlaneGraphs.{IsPlaneGraph}
use Rattle.nest_base.proofs.ListReads.{one_read, Contains-from_read, AllPairs-reads}
use Rattle.half_edges.proofs.Numbers.{side_from_half_edge}
use Rattle.face_nesting.specs.Nesting.{Nesting, AreOuterCycles, cycle_at}
use Rattle.face_nesting.proofs.Zips.{zip_second}
use Rattle.cover_plan.proofs.StartNumbers.{starts_are_told}
use Rattle.oe_cover.specs.Starts.{IsFirstStart}
use Rattle.oe_cover.specs.Ends.{IsFirstOfStarts}
use Rattle.oe_cover.proofs.FirstStarts.{start_is_lawful, may_start}

-- what is burnt doesn't matter
pub first_before : (o x : Graph) (cycle : List ℕ) (start : ℕ) → x ≡ with_burnt o x.burnt → IsFirstStart x cycle start → IsFirstStart o cycle start
first_before o x cycle start same is = of (subst (λ graph. IsFirstStart graph cycle start) same is)
  where
    of : IsFirstStart (with_burnt o x.burnt) cycle start → IsFirstStart o cycle start
    of (inl odd) = inl (record { place = odd.place; stands = odd.stands; odd = odd.odd; least = odd.least; earliest = odd.earliest })
    of (inr none) = inr none

module _ {graph : Graph} (faces : Nesting) (plane : IsPlaneGraph graph) (cycles : AreOuterCycles graph faces) (c : ℕ) (mark : Point) (at : slice_get graph.marks c ≡ Some mark) where
  -- vertices with lesser numbers come before
  in_order : (s t : ℕ) (g h : HalfEdge) → IsSide graph.edges s g → IsSide graph.edges t h → origin_of graph s ≤ origin_of graph t →
      (g.from ≡ h.from) ⊎ IsMarkedBefore g.from h.from
  in_order s t g h side_s side_t not_more =
      let at_s = plane.leaves s g side_s in
      let at_t = plane.leaves t h side_t in
      elim (cases_order (origin_of graph s) (origin_of graph t)) [
        | inl same ↦ inl (one_read graph.vertices (origin_of graph t) g.from h.from (ap (slice_get graph.vertices) (sym same) ∙ at_s) at_t)
        | inr (inl less) ↦ inr (AllPairs-reads IsMarkedBefore graph.vertices (origin_of graph s) (origin_of graph t) g.from h.from plane.are_vertices.in_order less at_s at_t)
        | inr (inr more) ↦ absurd (omega (arith, not_more, more))
      ]

  is_mark : IsMark graph.edges mark
  is_mark = (plane.are_marks.are_all mark).0 (Contains-from_read graph.marks c mark at)

  -- the half-edge that stands first in the outer cycle leaves the mark vertex
  first_leaves_mark : (s : ℕ) (h : HalfEdge) → IsSide graph.edges s h → slice_get (cycle_at faces c) 0 ≡ Some s → h.from ≡ mark
  first_leaves_mark s h side head =
      let (cycle, zip, outer) = cycles c mark at in
      let first = zip_second (IsSide graph.edges) (cycle_at faces c) cycle 0 s zip head in
      let same : h ≡ outer.mark_side = one_read _ s h outer.mark_side side (subst (IsSide graph.edges s) (one_read cycle 0 first.0 outer.mark_side first.1 outer.begins) first.2) in
      ap (λ (g : HalfEdge). g.from) same ∙ outer.leaves

  comes_first : (s : ℕ) (h : HalfEdge) → IsSide graph.edges s h → IsFirstStart graph (cycle_at faces c) s → (t : HalfEdge) → IsStart graph.edges mark t →
      (h.from ≡ t.from) ⊎ IsMarkedBefore h.from t.from
  comes_first s h side (inl is) t begins =
      let n = side_from_half_edge graph.edges t (outer_side_is_in graph.edges mark t begins.outer).0 in
      let told = (starts_are_told graph faces plane cycles c mark at n.0 t n.1).0 begins in
      in_order s n.0 h t side n.1 (is.least n.0 told.0 (told.1 s (Contains-from_read (cycle_at faces c) is.place s is.stands) is.odd))
  comes_first s h side (inr (none, head)) t begins =
      let from_mark = first_leaves_mark s h side head in
      elim (is_mark.first t.from (outer_side_is_in graph.edges mark t begins.outer).1) [
        | inl same ↦ inl (from_mark ∙ sym same)
        | inr before ↦ inr (subst (λ p. IsMarkedBefore p t.from) (sym from_mark) before)
      ]

  pub first_of_starts : (s : ℕ) (h : HalfEdge) → IsSide graph.edges s h → IsFirstStart graph (cycle_at faces c) s → IsFirstOfStarts graph.edges mark h.from
  first_of_starts s h side is = record {
    start = h;
    is_start = may_start graph faces c s mark h plane cycles at side (start_is_lawful graph (cycle_at faces c) s is);
    leaves = refl;
    first = comes_first s h side is;
  }
