-- Half-edges by number: which edge has which numbers, and which half-edges have one.
use Rattle.std.proofs.Common.{arith, ◌≡◌, ◌⊎◌, inl, inr, ℕ, zero, suc, ◌+◌, ◌*◌, ◌/◌, ◌%◌, ◌<◌, List, [], ◌∷◌, length, get_or, ◌≢◌, refl, sym, ap, subst, ◌∙◌}
use Rattle.std.specs.Prelude.{Some, slice_get}
use Rattle.std.proofs.lemmas.Option.{none-some, same_Some, slice_get_within, get_or_from_slice_get}
use Rattle.nest_base.specs.declared.places.Edge.{Edge}
use Rattle.nest_base.specs.Plane.{HalfEdge, twin}
use Rattle.plate_sides.specs.HalfEdges.{forth, IsHalfEdge, IsHalfEdgeOf}
use Rattle.half_edges.specs.Numbers.{half_edges_of, IsSide}
use Rattle.nest_base.proofs.ListReads.{read_below, one_read, Contains-from_read, read_from_Contains}

-- two for each edge
pub length-half_edges : (edges : List Edge) → length (half_edges_of edges) ≡ 2 * length edges
length-half_edges [] = refl
length-half_edges (e ∷ edges) = omega (arith, length-half_edges edges)

-- the half-edge with the number s: of the edge at place k that from low to high has the number 2k, and the other 2k + 1
abbrev pub IsSideOf : List Edge → ℕ → HalfEdge → ℕ → Edge → Type 0
IsSideOf edges s h k e = (slice_get edges k ≡ Some e) × (((s ≡ 2 * k) × (h ≡ forth e)) ⊎ ((s ≡ 2 * k + 1) × (h ≡ twin (forth e))))

IsSideOf-later : (d : Edge) (edges : List Edge) (s k : ℕ) (h : HalfEdge) (e : Edge) → IsSideOf edges s h k e → IsSideOf (d ∷ edges) (suc (suc s)) h (suc k) e
IsSideOf-later d edges s k h e (at, inl (number, is)) = (at, inl (omega arith, is))
IsSideOf-later d edges s k h e (at, inr (number, is)) = (at, inr (omega arith, is))

-- a half-edge with a number of an edge belongs to it
pub is_of_edge : (edges : List Edge) (s k : ℕ) (h : HalfEdge) (e : Edge) → IsSideOf edges s h k e → IsHalfEdgeOf e h
is_of_edge edges s k h e (at, inl (number, is)) = inl is
is_of_edge edges s k h e (at, inr (number, is)) = inr is

-- which edge has the half-edge with this number
pub side_of : (edges : List Edge) (s : ℕ) (h : HalfEdge) → IsSide edges s h → (k : ℕ) × (e : Edge) × IsSideOf edges s h k e
side_of [] s h is = absurd (none-some h is)
side_of (e ∷ edges) zero h is = (0, e, (refl, inl (refl, sym (same_Some (forth e) h is))))
side_of (e ∷ edges) (suc zero) h is = (0, e, (refl, inr (refl, sym (same_Some (twin (forth e)) h is))))
side_of (d ∷ edges) (suc (suc s)) h is =
    let r = side_of edges s h is in (suc r.0, r.1, IsSideOf-later d edges s r.0 h r.1 r.2)

IsSide-later : (d : Edge) (edges : List Edge) (s k : ℕ) (h : HalfEdge) → s ≡ suc (suc k) → IsSide edges k h → IsSide (d ∷ edges) s h
IsSide-later d edges s k h e is = subst (λ m. IsSide (d ∷ edges) m h) (sym e) is

-- the two numbers of the edge at place k
pub side_low : (edges : List Edge) (k : ℕ) (e : Edge) → slice_get edges k ≡ Some e → IsSide edges (2 * k) (forth e)
side_low [] k e at = absurd (none-some e at)
side_low (d ∷ edges) zero e at = ap (λ (c : Edge). Some (forth c)) (same_Some d e at)
side_low (d ∷ edges) (suc k) e at = IsSide-later d edges (2 * suc k) (2 * k) (forth e) (omega arith) (side_low edges k e at)

pub side_high : (edges : List Edge) (k : ℕ) (e : Edge) → slice_get edges k ≡ Some e → IsSide edges (2 * k + 1) (twin (forth e))
side_high [] k e at = absurd (none-some e at)
side_high (d ∷ edges) zero e at = ap (λ (c : Edge). Some (twin (forth c))) (same_Some d e at)
side_high (d ∷ edges) (suc k) e at = IsSide-later d edges (2 * suc k + 1) (2 * k + 1) (twin (forth e)) (omega arith) (side_high edges k e at)

-- no number stands for two half-edges
pub one_side : (edges : List Edge) (s : ℕ) (g h : HalfEdge) → IsSide edges s g → IsSide edges s h → g ≡ h
one_side edges s g h is_g is_h = one_read (half_edges_of edges) s g h is_g is_h

-- numbers lie below twice as many as there are edges
pub side_within : (edges : List Edge) (s : ℕ) (h : HalfEdge) → IsSide edges s h → s < 2 * length edges
side_within edges s h is = omega (arith, slice_get_within (half_edges_of edges) s h is, length-half_edges edges)

-- and each below stands for one
pub side_below : (edges : List Edge) (s : ℕ) → s < 2 * length edges → (h : HalfEdge) × IsSide edges s h
side_below edges s below = read_below (half_edges_of edges) s (omega (arith, length-half_edges edges))

-- the twin of a half-edge with an even number has the next one
pub twin_of_even : (edges : List Edge) (s : ℕ) (h : HalfEdge) → IsSide edges s h → s % 2 ≡ 0 → IsSide edges (s + 1) (twin h)
twin_of_even edges s h is even = of (side_of edges s h is)
  where
    of : (k : ℕ) × (e : Edge) × IsSideOf edges s h k e → IsSide edges (s + 1) (twin h)
    of (k, e, (at, inl (number, same))) =
        subst (λ m. IsSide edges m (twin h)) (ap (λ m. m + 1) (sym number)) (subst (λ g. IsSide edges (2 * k + 1) (twin g)) (sym same) (side_high edges k e at))
    of (k, e, (at, inr (number, same))) = absurd (omega arith)

-- and that of one with an odd number the one before
pub twin_of_odd : (edges : List Edge) (s : ℕ) (h : HalfEdge) → IsSide edges (s + 1) h → (s + 1) % 2 ≡ 1 → IsSide edges s (twin h)
twin_of_odd edges s h is odd = of (side_of edges (s + 1) h is)
  where
    of : (k : ℕ) × (e : Edge) × IsSideOf edges (s + 1) h k e → IsSide edges s (twin h)
    of (k, e, (at, inl (number, same))) = absurd (omega arith)
    of (k, e, (at, inr (number, same))) =
        let below : s ≡ 2 * k = omega arith in
        subst (λ m. IsSide edges m (twin h)) (sym below) (subst (λ g. IsSide edges (2 * k) (twin g)) (sym same) (side_low edges k e at))

-- what has a number is a half-edge
pub side_is_half_edge : (edges : List Edge) (s : ℕ) (h : HalfEdge) → IsSide edges s h → IsHalfEdge edges h
side_is_half_edge edges s h is = of (side_of edges s h is)
  where
    of : (k : ℕ) × (e : Edge) × IsSideOf edges s h k e → IsHalfEdge edges h
    of (k, e, (at, inl (number, same))) = (e, Contains-from_read edges k e at, inl same)
    of (k, e, (at, inr (number, same))) = (e, Contains-from_read edges k e at, inr same)

-- and each half-edge has one
pub side_from_half_edge : (edges : List Edge) (h : HalfEdge) → IsHalfEdge edges h → (s : ℕ) × IsSide edges s h
side_from_half_edge edges h (e, stands, is) = of (read_from_Contains edges e stands) is
  where
    of : (k : ℕ) × (slice_get edges k ≡ Some e) → IsHalfEdgeOf e h → (s : ℕ) × IsSide edges s h
    of (k, at) (inl same) = (2 * k, subst (IsSide edges (2 * k)) (sym same) (side_low edges k e at))
    of (k, at) (inr same) = (2 * k + 1, subst (IsSide edges (2 * k + 1)) (sym same) (side_high edges k e at))

-- the half-edge with an even number leads from the low end of the edge at half of it
pub side_of_even : (edges : List Edge) (s : ℕ) (h : HalfEdge) (d : Edge) → IsSide edges s h → s % 2 ≡ 0 → h ≡ forth (get_or edges (s / 2) d)
side_of_even edges s h d is even = of (side_of edges s h is)
  where
    of : (k : ℕ) × (e : Edge) × IsSideOf edges s h k e → h ≡ forth (get_or edges (s / 2) d)
    of (k, e, (at, inl (number, same))) =
        let half : s / 2 ≡ k = omega arith in same ∙ ap forth (sym (get_or_from_slice_get edges (s / 2) e d (ap (slice_get edges) half ∙ at)))
    of (k, e, (at, inr (number, same))) = absurd (omega arith)

-- and that with an odd number from its high end
pub side_of_odd : (edges : List Edge) (s : ℕ) (h : HalfEdge) (d : Edge) → IsSide edges s h → s % 2 ≢ 0 → h ≡ twin (forth (get_or edges (s / 2) d))
side_of_odd edges s h d is odd = of (side_of edges s h is)
  where
    of : (k : ℕ) × (e : Edge) × IsSideOf edges s h k e → h ≡ twin (forth (get_or edges (s / 2) d))
    of (k, e, (at, inl (number, same))) = absurd (odd (omega arith))
    of (k, e, (at, inr (number, same))) =
        let half : s / 2 ≡ k = omega arith in
        same ∙ ap (λ (f : Edge). twin (forth f)) (sym (get_or_from_slice_get edges (s / 2) e d (ap (slice_get edges) half ∙ at)))
