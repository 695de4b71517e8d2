-- Lead-ins that are free: they go along no edge, and each first try that fits is one.
use Rattle.std.proofs.Common.{◌≡◌, ◌≢◌, inl, inr, Some, sym, ap, subst, ◌∙◌}
use Rattle.std.specs.Prelude.{List}
use Rattle.nest_base.specs.declared.places.Point.{Point}
use Rattle.nest_base.specs.declared.places.Edge.{Edge}
use Rattle.nest_base.specs.Plane.{HalfEdge, rational, IsAt, IsOn}
use Rattle.nest_base.proofs.Points.{same_place, mul-one, on_first, on_last}
use Rattle.plate_sides.specs.HalfEdges.{IsHalfEdge, IsHalfEdgeOf}
use Rattle.plate_parts.specs.declared.leads.Lead.{Lead}
use Rattle.plate_parts.specs.LeadIns.{Left, Right, Fits, FitsHand, IsFreeLeadIn, IsFirstFit, IsFirstLeadIn}
use Rattle.plate_parts.specs.LeadIns.IsFirstFit.{first}
use Rattle.plate_parts.specs.LeadIns.IsFirstLeadIn.{left, right}
use Rattle.sound_code.specs.Plans.{LeadInIsOffEdges}

-- the first place of a half-edge lies on its edge
start_is_on : (e : Edge) (h : HalfEdge) → IsHalfEdgeOf e h → IsOn (rational h.from) e.low e.high
start_is_on e h (inl forth) = subst (λ p. IsOn (rational p) e.low e.high) (sym (ap (λ (g : HalfEdge). g.from) forth)) (on_first e.low e.high)
start_is_on e h (inr back) = subst (λ p. IsOn (rational p) e.low e.high) (sym (ap (λ (g : HalfEdge). g.from) back)) (on_last e.low e.high)

-- a place that is at another is that one
same_at : (q v : Point) → IsAt (rational q) v → q ≡ v
same_at q v at = same_place (ap (λ (p : Point). p.x) at ∙ mul-one v.x) (ap (λ (p : Point). p.y) at ∙ mul-one v.y)

-- were the way from q to the vertex a half-edge, q would be a common point of both
fits_off_edges : (edges : List Edge) (names : List Point) (earlier : List Lead) (q : Point) (a b : HalfEdge) → Fits edges names earlier q a b →
    IsHalfEdge edges (record { from = q; to = a.from }) → ⊥
fits_off_edges edges names earlier q a b fits (e, stands, of_e) =
    fits.apart (same_at q a.from (fits.off_edges e stands (rational q) (on_first q a.from) (start_is_on e (record { from = q; to = a.from }) of_e)))

pub lead_in_is_off_edges : LeadInIsOffEdges
lead_in_is_off_edges edges names earlier s q (inl (a, b, corner, fits)) on_edge =
    fits_off_edges edges names earlier q a b fits (subst (λ (h : HalfEdge). IsHalfEdge edges (record { from = q; to = h.from })) (sym corner.0) on_edge)
lead_in_is_off_edges edges names earlier s q (inr (a, b, corner, fits)) on_edge =
    fits_off_edges edges names earlier q a b fits (subst (λ (v : Point). IsHalfEdge edges (record { from = q; to = v })) corner.1.other.1 on_edge)

-- it starts at another place than where it leads
pub free_is_apart : (edges : List Edge) (names : List Point) (earlier : List Lead) (s : HalfEdge) (q : Point) → IsFreeLeadIn edges names earlier s q → q ≢ s.from
free_is_apart edges names earlier s q (inl (a, b, corner, fits)) same = fits.apart (same ∙ ap (λ (h : HalfEdge). h.from) (sym corner.0))
free_is_apart edges names earlier s q (inr (a, b, corner, fits)) same = fits.apart (same ∙ corner.1.other.1)

fits_of_first : (fits : Point → Type 0) (places : List Point) (q : Point) → IsFirstFit fits places (Some q) → fits q
fits_of_first fits places q (first before after are none_before is) = is

pub same_start : (q p : Point) → Some q ≡ Some p → q ≡ p
same_start q p e = cc

-- the first lead-in is a free one
pub first_is_free : (edges : List Edge) (names : List Point) (earlier : List Lead) (s : HalfEdge) (q : Point) → IsFirstLeadIn edges names earlier s (Some q) → IsFreeLeadIn edges names earlier s q
first_is_free edges names earlier s q (left p is fit) =
    inl (subst (FitsHand edges names earlier s Left) (sym (same_start q p is)) (fits_of_first (FitsHand edges names earlier s Left) _ p fit))
first_is_free edges names earlier s q (right no_left fit) = inr (fits_of_first (FitsHand edges names earlier s Right) _ q fit)
