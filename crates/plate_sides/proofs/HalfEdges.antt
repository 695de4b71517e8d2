-- The half-edges of an edge, and the one edge of a half-edge.
use Rattle.std.proofs.Common.{◌≡◌, ◌⊎◌, inl, inr, List, sym, ap, ◌∙◌, subst}
use Rattle.nest_base.specs.declared.places.Edge.{Edge}
use Rattle.nest_base.specs.Plane.{HalfEdge, twin}
use Rattle.nest_base.specs.Order.{IsBefore}
use Rattle.nest_base.proofs.Orders.{IsBefore-asym, IsBefore-irrefl}
use Rattle.plate_sides.specs.HalfEdges.{forth, IsHalfEdgeOf, IsHalfEdge}

same_ends : (e f : Edge) → forth e ≡ forth f → e ≡ f
same_ends e f same = ap (λ (h : HalfEdge). record { low = h.from; high = h.to }) same

-- no edge goes from the greater end of another to its lesser one
not_turned : (e f : Edge) → IsBefore e.low e.high → IsBefore f.low f.high → forth e ≡ twin (forth f) → ⊥
not_turned e f ahead behind same =
    let low : e.low ≡ f.high = ap (λ (h : HalfEdge). h.from) same in
    let high : e.high ≡ f.low = ap (λ (h : HalfEdge). h.to) same in
    let turned : IsBefore f.high e.high = subst (λ v. IsBefore v e.high) low ahead in
    IsBefore-asym f.low f.high behind (subst (IsBefore f.high) high turned)

-- edges whose ends are in order, and that have a half-edge in common, are one
pub one_edge : (e f : Edge) (h : HalfEdge) → IsBefore e.low e.high → IsBefore f.low f.high → IsHalfEdgeOf e h → IsHalfEdgeOf f h → e ≡ f
one_edge e f h ahead behind (inl p) (inl q) = same_ends e f (sym p ∙ q)
one_edge e f h ahead behind (inl p) (inr q) = absurd (not_turned e f ahead behind (sym p ∙ q))
one_edge e f h ahead behind (inr p) (inl q) = absurd (not_turned f e behind ahead (sym q ∙ p))
one_edge e f h ahead behind (inr p) (inr q) = same_ends e f (ap twin (sym p ∙ q))

-- a half-edge leaves one end of its edge
pub from_is_end : (e : Edge) (h : HalfEdge) → IsHalfEdgeOf e h → (h.from ≡ e.low) ⊎ (h.from ≡ e.high)
from_is_end e h (inl p) = inl (ap (λ (g : HalfEdge). g.from) p)
from_is_end e h (inr p) = inr (ap (λ (g : HalfEdge). g.from) p)

-- the other half-edge of an edge belongs to it too
pub twin_is_half_edge_of : (e : Edge) (h : HalfEdge) → IsHalfEdgeOf e h → IsHalfEdgeOf e (twin h)
twin_is_half_edge_of e h (inl is) = inr (ap twin is)
twin_is_half_edge_of e h (inr is) = inl (ap twin is)

pub twin_is_half_edge : (edges : List Edge) (h : HalfEdge) → IsHalfEdge edges h → IsHalfEdge edges (twin h)
twin_is_half_edge edges h (e, stands, is) = (e, stands, twin_is_half_edge_of e h is)

-- two half-edges of one edge are equal, or each is the twin of the other
pub same_or_twin : (e : Edge) (h k : HalfEdge) → IsHalfEdgeOf e h → IsHalfEdgeOf e k → (h ≡ k) ⊎ (h ≡ twin k)
same_or_twin e h k (inl p) (inl q) = inl (p ∙ sym q)
same_or_twin e h k (inl p) (inr q) = inr (p ∙ sym (ap twin q))
same_or_twin e h k (inr p) (inl q) = inr (p ∙ sym (ap twin q))
same_or_twin e h k (inr p) (inr q) = inl (p ∙ sym q)

-- one half-edge of an edge leaves each of its ends
pub leaves_once : (e : Edge) (h k : HalfEdge) → IsBefore e.low e.high → IsHalfEdgeOf e h → IsHalfEdgeOf e k → h.from ≡ k.from → h ≡ k
leaves_once e h k a (inl p) (inl q) at = p ∙ sym q
leaves_once e h k a (inl p) (inr q) at =
    absurd (IsBefore-irrefl e.low e.high a (sym (ap (λ (g : HalfEdge). g.from) p) ∙ at ∙ ap (λ (g : HalfEdge). g.from) q))
leaves_once e h k a (inr p) (inl q) at =
    absurd (IsBefore-irrefl e.low e.high a (sym (ap (λ (g : HalfEdge). g.from) q) ∙ sym at ∙ ap (λ (g : HalfEdge). g.from) p))
leaves_once e h k a (inr p) (inr q) at = p ∙ sym q

-- a half-edge doesn't end where it begins
pub ends_differ : (e : Edge) (h : HalfEdge) → IsBefore e.low e.high → IsHalfEdgeOf e h → h.to ≡ h.from → ⊥
ends_differ e h a (inl p) same = IsBefore-irrefl e.low e.high a (sym (ap (λ (g : HalfEdge). g.from) p) ∙ sym same ∙ ap (λ (g : HalfEdge). g.to) p)
ends_differ e h a (inr p) same = IsBefore-irrefl e.low e.high a (sym (ap (λ (g : HalfEdge). g.to) p) ∙ same ∙ ap (λ (g : HalfEdge). g.from) p)
