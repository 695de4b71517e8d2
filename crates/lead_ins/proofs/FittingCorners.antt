-- What fits a corner of a half-edge, by the corner's directions and by the half-edges that enclose it.
use Rattle.std.proofs.Common.{◌≡◌, ◌<◌, ◌+◌, ℕ, List, length, sym, ap, subst, ◌∙◌}
use Rattle.std.specs.Prelude.{All, Contains, IfSome, Option}
use Rattle.nest_base.specs.declared.places.Point.{Point}
use Rattle.nest_base.specs.Plane.{HalfEdge}
use Rattle.plate_parts.specs.declared.leads.Lead.{Lead}
use Rattle.plate_parts.specs.LeadIns.{Hand, Left, Right, Fits, FitsHand, IsFirstFit, tried_around}
use Rattle.nest_base.specs.Range.{IsWithin, IsEdgeWithin}
use Rattle.half_edges.specs.Numbers.{half_edges_of}
use Rattle.half_edges.specs.Graph.{Graph}
use Rattle.cover_plan.specs.Trails.{half_edge_of}
use Rattle.part_scrap.specs.Naming.{TellsScrap}
use Rattle.lead_ins.specs.declared.corners.Corner.{Corner}
use Rattle.lead_ins.specs.Corners.{IsCornerOf, IsOffEdges, IsOffLeads, FitsCorner, FitsOffEdges}
use Rattle.lead_ins.specs.Tries.{lead_reach}
use Rattle.lead_ins.proofs.EdgeReads.{beginning_within}
use Rattle.lead_ins.proofs.FirstFits.{first_fit_by, some_weaker}
use Rattle.lead_ins.proofs.Told.{scrap_told}
use Rattle.lead_ins.proofs.Tried.{tried_within}

-- a corner lies at the vertex of its half-edge
pub vertex_of : (graph : Graph) (s : ℕ) (hand : Hand) (corner : Corner) → IsCornerOf graph s hand corner → corner.vertex ≡ (half_edge_of graph s).from
vertex_of graph s Left corner is = is.between.vertex ∙ ap (λ (h : HalfEdge). h.from) is.is_corner.0
vertex_of graph s Right corner is = is.between.vertex ∙ sym is.is_corner.1.other.1

module _ (graph : Graph) (places : List Point) (earlier : List Lead) (s : ℕ) (hand : Hand) (corner : Corner) (is : IsCornerOf graph s hand corner) where
  abbrev a : HalfEdge
  a = half_edge_of graph corner.side.0

  pub fits_hand : (q : Point) → FitsCorner graph places earlier corner q → FitsHand graph.edges places earlier (half_edge_of graph s) hand q
  fits_hand q (clear, scrap) = (
    a,
    is.b,
    is.is_corner,
    record {
      apart = λ e. clear.from_within.apart (e ∙ sym is.between.vertex);
      in_corner = rw (is.between.first, is.between.vertex, is.between.last) at clear.from_within.in_corner;
      in_scrap = scrap;
      off_edges = subst (λ v. IsOffEdges graph.edges v q) is.between.vertex clear.off_edges;
      off_earlier = subst (λ v. IsOffLeads earlier v q) is.between.vertex clear.off_earlier;
    },
  )

  pub fits_this : (q : Point) → FitsHand graph.edges places earlier (half_edge_of graph s) hand q → FitsCorner graph places earlier corner q
  fits_this q (c, d, is_corner, fits) = (
    record {
      from_within = record {
        apart = λ e. here.apart (e ∙ is.between.vertex);
        in_corner = rw (is.between.first, is.between.vertex, is.between.last) here.in_corner;
      };
      off_edges = subst (λ v. IsOffEdges graph.edges v q) (sym is.between.vertex) here.off_edges;
      off_earlier = subst (λ v. IsOffLeads earlier v q) (sym is.between.vertex) here.off_earlier;
    },
    here.in_scrap,
  ) where
    here : Fits graph.edges places earlier q a is.b
    here =
        let same = is.alone c d is_corner in
        subst (λ h. Fits graph.edges places earlier q a h) same.1 (subst (λ h. Fits graph.edges places earlier q h d) same.0 fits)

  -- of a cut that touches no edge but at the vertex less has to be found out, where it's told which faces are scrap
  module _ (faces : List ℕ) (names : List (Option ℕ)) (told : TellsScrap graph.edges places faces names) (q : Point) where
    pub off_fits_hand : IsOffEdges graph.edges (half_edge_of graph s).from q → FitsOffEdges faces names earlier corner q →
        FitsHand graph.edges places earlier (half_edge_of graph s) hand q
    off_fits_hand off fits = fits_hand q (
      record {
        from_within = fits.from_within;
        off_edges = subst (λ v. IsOffEdges graph.edges v q) (sym (vertex_of graph s hand corner is)) off;
        off_earlier = fits.off_earlier;
      },
      (scrap_told graph places faces names corner.side.0 told is.between.within).0 fits.in_scrap,
    )

    pub fits_this_off : FitsHand graph.edges places earlier (half_edge_of graph s) hand q → FitsOffEdges faces names earlier corner q
    fits_this_off fits =
        let (clear, scrap) = fits_this q fits in
        record {
          in_scrap = (scrap_told graph places faces names corner.side.0 told is.between.within).1 scrap;
          from_within = clear.from_within;
          off_earlier = clear.off_earlier;
        }

  -- so the first that fits is the same
  pub first_by_hand : (answer : Option Point) → IsFirstFit (FitsCorner graph places earlier corner) (tried_around corner.vertex) answer →
      IsFirstFit (FitsHand graph.edges places earlier (half_edge_of graph s) hand) (tried_around (half_edge_of graph s).from) answer
  first_by_hand answer is_first =
      subst (λ v. IsFirstFit (FitsHand graph.edges places earlier (half_edge_of graph s) hand) (tried_around v) answer) (vertex_of graph s hand corner is)
      (first_fit_by (FitsCorner graph places earlier corner) (FitsHand graph.edges places earlier (half_edge_of graph s) hand) (tried_around corner.vertex) answer fits_hand fits_this is_first)

module _ (graph : Graph) (s : ℕ) (hand : Hand) (corner : Corner) (is : IsCornerOf graph s hand corner) where
  pub corner_within : (n : ℕ) → All (IsEdgeWithin n) graph.edges → s < length (half_edges_of graph.edges) → IsWithin n corner.vertex
  corner_within n near below = subst (IsWithin n) (sym (vertex_of graph s hand corner is)) (beginning_within n graph s near below)

  pub tried_around_vertex : (answer : Option Point) → IfSome answer (Contains (tried_around corner.vertex)) → IfSome answer (Contains (tried_around (half_edge_of graph s).from))
  tried_around_vertex answer = subst (λ v. IfSome answer (Contains (tried_around v))) (vertex_of graph s hand corner is)

-- a place that is tried lies near the edges
pub answer_within : (graph : Graph) (s n : ℕ) (answer : Option Point) → All (IsEdgeWithin n) graph.edges → s < length (half_edges_of graph.edges) →
    IfSome answer (Contains (tried_around (half_edge_of graph s).from)) → IfSome answer (IsWithin (n + lead_reach))
answer_within graph s n answer near below tried =
    some_weaker (Contains (tried_around (half_edge_of graph s).from)) (IsWithin (n + lead_reach)) answer
    (λ q. tried_within n (half_edge_of graph s).from q (beginning_within n graph s near below)) tried
