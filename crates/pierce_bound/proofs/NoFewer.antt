-- No cover of a graph's edges has fewer trails than the bounds of its components say.
use Rattle.std.proofs.Common.{◌≡◌, ℕ, length, take, sym, ap, subst, ◌∙◌}
use Rattle.std.specs.Prelude.{Some, slice_get}
use Rattle.std.specs.List.{AllZip}
use Rattle.std.proofs.Math.Seq.{take-length}
use Rattle.nest_base.specs.declared.places.Point.{Point}
use Rattle.half_edges.specs.Graph.{Graph}
use Rattle.half_edges.specs.PlaneGraphs.{IsPlaneGraph}
use Rattle.plate_sides.specs.Bound.{IsBound, NoCoverHasFewerIn, NoCoverHasFewer}
use Rattle.plate_plans.proofs.Places.{mark_at}
use Rattle.plate_plans.proofs.Undercut.{none_undercuts, none_undercuts_sum}
use Rattle.pierce_bound.proofs.Summed.{AreSummed}

module _ {graph : Graph} (is : IsPlaneGraph graph) where
  pub no_fewer_in : (c n : ℕ) (mark : Point) → slice_get graph.marks c ≡ Some mark → IsBound graph.edges mark n → NoCoverHasFewerIn graph.edges mark n
  no_fewer_in c n mark at bound = none_undercuts graph.edges is.ends_in_order is.each_once mark (mark_at is.are_marks c mark at) n bound

  -- once all bounds are added up
  pub no_fewer : (c total : ℕ) → c ≡ length graph.marks → AreSummed graph c total → NoCoverHasFewer graph.edges total
  no_fewer c total all are =
      let whole : take c graph.marks ≡ graph.marks = ap (λ k. take k graph.marks) all ∙ take-length graph.marks in
      subst (NoCoverHasFewer graph.edges) (sym are.is_sum) (none_undercuts_sum graph.edges is.ends_in_order is.each_once is.round graph.marks are.bounds is.are_marks
      (subst (λ marks. AllZip (IsBound graph.edges) marks are.bounds) whole are.are_bounds))
