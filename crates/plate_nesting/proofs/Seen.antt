-- From every place something is seen: the nearest of the met half-edges, or the outside.
use Rattle.std.proofs.Common.{arith, ◌⊎◌, pos, ◌*ℤ◌, ◌<ℤ◌, List, [], ◌∷◌, inl, inr, sym, subst, ap, ◌∙◌}
use Rattle.std.specs.Prelude.{Contains}
use Rattle.std.proofs.lemmas.Int.{ints}
use Rattle.nest_base.specs.declared.places.Point.{Point}
use Rattle.nest_base.specs.declared.places.Edge.{Edge}
use Rattle.nest_base.specs.Plane.{HalfEdge, twin, cross_product, direction, heading}
use Rattle.nest_base.specs.Sight.{IsMet, IsNearer, fall, drift, x_at}
use Rattle.nest_base.proofs.Lists.{Contains-head, Contains-later, Contains-cases, Contains-none}
use Rattle.plate_sides.specs.HalfEdges.{forth, IsHalfEdge}
use Rattle.plate_sides.specs.Links.{Node, Outer, At, Sees}
use Rattle.segment_meeting.proofs.Factors.{same_or_not}
use Rattle.plate_nesting.proofs.Factors.{less_or_not}
use Rattle.plate_nesting.proofs.Nearer.{nearer_then}

pub met_falls : (p : Point) (d : HalfEdge) → IsMet p d → pos 0 <ℤ fall d
met_falls p d met = omega (arith, ints, met.lower_end, met.upper_end)

pub met_or_not : (p : Point) (d : HalfEdge) → IsMet p d ⊎ (IsMet p d → ⊥)
met_or_not p d = elim (less_or_not p.y d.to.y) [
  | inl above ↦ inr (λ m. omega (arith, ints, above, m.lower_end))
  | inr low ↦ elim (less_or_not p.y d.from.y) [
    | inr over ↦ inr (λ m. omega (arith, ints, over, m.upper_end))
    | inl high ↦ elim (less_or_not (pos 0) (cross_product (heading d) (direction d.from p))) [
      | inl east ↦ inl (record { lower_end = low; upper_end = high; is_east = east })
      | inr west ↦ inr (λ m. omega (arith, ints, west, m.is_east))
    ]
  ]
]

pub nearer_or_not : (p : Point) (d e : HalfEdge) → IsNearer p d e ⊎ (IsNearer p d e → ⊥)
nearer_or_not p d e = elim (less_or_not (x_at p.y e *ℤ fall d) (x_at p.y d *ℤ fall e)) [
  | inl east ↦ inl (inl east)
  | inr not_east ↦ elim (same_or_not (x_at p.y e *ℤ fall d) (x_at p.y d *ℤ fall e)) [
    | inr apart ↦ inr (λ n. elim n [ inl h ↦ omega (arith, ints, h, not_east) | inr h ↦ apart h.0 ])
    | inl same ↦ elim (less_or_not (drift e *ℤ fall d) (drift d *ℤ fall e)) [
      | inl leaning ↦ inl (inr (same, leaning))
      | inr upright ↦ inr (λ n. elim n [ inl h ↦ omega (arith, ints, h, not_east) | inr h ↦ omega (arith, ints, h.1, upright) ])
    ]
  ]
]

pub not_nearer_itself : (p : Point) (d : HalfEdge) → IsNearer p d d → ⊥
not_nearer_itself p d (inl h) = omega (arith, ints, h)
not_nearer_itself p d (inr h) = omega (arith, ints, h.1)

-- the nearest of some half-edges, or none
IsFirst : Point → List HalfEdge → HalfEdge → Type 0
IsFirst p sides d = Contains sides d × IsMet p d × ((e : HalfEdge) → Contains sides e → IsMet p e → IsNearer p e d → ⊥)

nearest : (p : Point) (sides : List HalfEdge) → ((d : HalfEdge) → Contains sides d → IsMet p d → ⊥) ⊎ ((d : HalfEdge) × IsFirst p sides d)
unfolding IsFirst
nearest p [] = inl (λ d m. absurd (Contains-none d m))
nearest p (h ∷ sides) = elim (met_or_not p h) [
  | inr unmet ↦ elim (nearest p sides) [
    | inl none ↦ inl (λ d m met. elim (Contains-cases h d sides m) [ inl e ↦ unmet (subst (IsMet p) (sym e) met) | inr l ↦ none d l met ])
    | inr r ↦ inr (
      r.0,
      (
        Contains-later h r.0 sides r.1.0,
        r.1.1,
        λ e m met near. elim (Contains-cases h e sides m) [
          | inl same ↦ unmet (subst (IsMet p) (sym same) met)
          | inr l ↦ r.1.2 e l met near
        ],
      ),
    )
  ]
  | inl met_h ↦ elim (nearest p sides) [
    | inl none ↦ inr (
      h,
      (
        Contains-head h sides,
        met_h,
        λ e m met near. elim (Contains-cases h e sides m) [
          | inl same ↦ not_nearer_itself p h (subst (λ k. IsNearer p k h) (sym same) near)
          | inr l ↦ none e l met
        ],
      ),
    )
    | inr r ↦ elim (nearer_or_not p h r.0) [
      | inl near_h ↦ inr (
        h,
        (
          Contains-head h sides,
          met_h,
          λ e m met near. elim (Contains-cases h e sides m) [
            | inl same ↦ not_nearer_itself p h (subst (λ k. IsNearer p k h) (sym same) near)
            | inr l ↦ r.1.2 e l met (nearer_then p e h r.0 (met_falls p e met) (met_falls p h met_h) (met_falls p r.0 r.1.1) near near_h)
          ],
        ),
      )
      | inr far_h ↦ inr (
        r.0,
        (
          Contains-later h r.0 sides r.1.0,
          r.1.1,
          λ e m met near. elim (Contains-cases h e sides m) [
            | inl same ↦ far_h (subst (λ k. IsNearer p k r.0) (sym same) near)
            | inr l ↦ r.1.2 e l met near
          ],
        ),
      )
    ]
  ]
]

-- the half-edges of edges, as a list
sides_of : List Edge → List HalfEdge
sides_of [] = []
sides_of (e ∷ edges) = forth e ∷ twin (forth e) ∷ sides_of edges

in_sides : (edges : List Edge) (h : HalfEdge) → Contains (sides_of edges) h → IsHalfEdge edges h
unfolding sides_of
in_sides [] h m = absurd (Contains-none h m)
in_sides (e ∷ edges) h m = elim (Contains-cases (forth e) h (twin (forth e) ∷ sides_of edges) m) [
  | inl s ↦ (e, Contains-head e edges, inl (sym s))
  | inr l ↦ elim (Contains-cases (twin (forth e)) h (sides_of edges) l) [
    | inl s ↦ (e, Contains-head e edges, inr (sym s))
    | inr k ↦ let r = in_sides edges h k in (r.0, Contains-later e r.0 edges r.1, r.2)
  ]
]

sides_have : (edges : List Edge) (h : HalfEdge) → IsHalfEdge edges h → Contains (sides_of edges) h
unfolding sides_of
sides_have [] h (e, m, is) = absurd (Contains-none e m)
sides_have (f ∷ edges) h (e, m, is) = elim (Contains-cases f e edges m) [
  | inr l ↦ Contains-later (forth f) h (twin (forth f) ∷ sides_of edges) (Contains-later (twin (forth f)) h (sides_of edges) (sides_have edges h (e, l, is)))
  | inl same ↦ elim is [
    | inl s ↦ subst (Contains (forth f ∷ twin (forth f) ∷ sides_of edges)) (ap forth same ∙ sym s) (Contains-head (forth f) (twin (forth f) ∷ sides_of edges))
    | inr s ↦ subst (Contains (forth f ∷ twin (forth f) ∷ sides_of edges)) (ap (λ (g : Edge). twin (forth g)) same ∙ sym s)
        (Contains-later (forth f) (twin (forth f)) (twin (forth f) ∷ sides_of edges) (Contains-head (twin (forth f)) (sides_of edges)))
  ]
]

pub something_is_seen : (edges : List Edge) (p : Point) → (n : Node) × Sees edges p n
unfolding IsFirst
something_is_seen edges p = elim (nearest p (sides_of edges)) [
  | inl none ↦ (Outer, λ d is met. none d (sides_have edges d is) met)
  | inr r ↦ (At r.0, record { is_side = in_sides edges r.0 r.1.0; is_met = r.1.1; none_nearer = λ e is met near. r.1.2 e (sides_have edges e is) met near })
]
