-- The corners of a half-edge: a half-edge has one on each hand.
use Rattle.std.proofs.Common.{◌≡◌, ◌<◌, ℕ, length, refl, sym, ap, subst, ◌∙◌}
use Rattle.nest_base.specs.declared.numbers.Side.{Side}
use Rattle.nest_base.specs.Plane.{HalfEdge}
use Rattle.plate_sides.specs.HalfEdges.{IsNextCcw, IsNextCw}
use Rattle.plate_nesting.proofs.Alongs.{next_is_one, next_is_of_one}
use Rattle.plate_parts.specs.LeadIns.{Left, Right}
use Rattle.half_edges.specs.Numbers.{half_edges_of, IsSide}
use Rattle.half_edges.specs.Graph.{Graph}
use Rattle.half_edges.specs.PlaneGraphs.{IsPlaneGraph}
use Rattle.cover_plan.specs.Trails.{half_edge_of}
use Rattle.cover_plan.proofs.GraphHalves.{half_is, has_number}
use Rattle.lead_ins.specs.declared.corners.Corner.{Corner}
use Rattle.lead_ins.specs.Corners.{IsCornerBetween, IsCornerOf}

module _ (graph : Graph) (plane : IsPlaneGraph graph) (s t : ℕ) (corner : Corner) (within : s < length (half_edges_of graph.edges)) where
  abbrev half : ℕ → HalfEdge
  half = half_edge_of graph

  pub left_corner_of : ((h : HalfEdge) → IsSide graph.edges s h → (k : HalfEdge) × IsSide graph.edges t k × IsNextCcw graph.edges h k) →
      {side : Side} → side.0 ≡ s → corner.side ≡ side → IsCornerBetween graph corner (half_edge_of graph t) → IsCornerOf graph s Left corner
  left_corner_of next {side} number is between = record {
    b = half t;
    between = between;
    is_corner = (is_first, follows);
    alone = λ c d is. (is.0 ∙ sym is_first, next_is_one graph.edges plane.ends_in_order plane.apart (half s) d (half t) is.1 follows);
  } where
    is_first : half corner.side.0 ≡ half s
    is_first = ap (λ (x : Side). half x.0) is ∙ ap half number

    follows : IsNextCcw graph.edges (half s) (half t)
    follows = let k = next (half s) (has_number graph s within) in subst (IsNextCcw graph.edges (half s)) (sym (half_is graph t k.0 k.1)) k.2

  pub right_corner_of : ((h : HalfEdge) → IsSide graph.edges s h → (k : HalfEdge) × IsSide graph.edges t k × IsNextCw graph.edges h k) →
      {side : Side} → side.0 ≡ t → corner.side ≡ side → IsCornerBetween graph corner (half_edge_of graph s) → IsCornerOf graph s Right corner
  right_corner_of next {side} number is between = record {
    b = half s;
    between = between;
    is_corner = (refl, subst (λ h. IsNextCcw graph.edges h (half s)) (sym is_first) precedes);
    alone = λ c d found. (
      next_is_of_one graph.edges plane.ends_in_order plane.apart c (half corner.side.0) (half s) found.1
          (subst (λ h. IsNextCcw graph.edges h (half s)) (sym is_first) precedes),
      found.0,
    );
  } where
    is_first : half corner.side.0 ≡ half t
    is_first = ap (λ (x : Side). half x.0) is ∙ ap half number

    precedes : IsNextCcw graph.edges (half t) (half s)
    precedes = let k = next (half s) (has_number graph s within) in subst (λ h. IsNextCcw graph.edges h (half s)) (sym (half_is graph t k.0 k.1)) k.2
