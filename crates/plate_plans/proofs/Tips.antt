-- The first and the last vertex of a trail: it lies in one component, and has an even number of ends at each other vertex.
use Rattle.std.proofs.Common.{arith, ◌≡◌, ◌⊎◌, ℕ, ◌+◌, ◌*◌, ◌%◌, ◌≤◌, List, [], ◌∷◌, ◌++◌, length, inl, inr, sym, ap, subst}
use Rattle.std.specs.Prelude.{Contains, All}
use Rattle.std.proofs.lemmas.List.Elements.{All-head, All-tail, Contains-append_left, Contains-append_right}
use Rattle.nest_base.specs.declared.places.Point.{Point}
use Rattle.nest_base.specs.declared.places.Edge.{Edge}
use Rattle.nest_base.specs.Plane.{HalfEdge}
use Rattle.nest_base.specs.Walks.{here, on}
use Rattle.nest_base.proofs.Lists.{Contains-head, Contains-later, Contains-cases, Contains-none, All-from_contains}
use Rattle.nest_base.proofs.Walks.{Walk-then, Walk-back}
use Rattle.plate_sides.specs.HalfEdges.{IsHalfEdge}
use Rattle.plate_sides.specs.Components.{IsIn, SameComponent}
use Rattle.plate_sides.proofs.HalfEdges.{twin_is_half_edge}
use Rattle.plate_sides.specs.Cover.{IsTrail, joined}
use Rattle.plate_plans.proofs.Ends.{same, same_tells, ends}

-- where a trail that begins with s ends
abbrev pub last_to : HalfEdge → List HalfEdge → Point
last_to s [] = s.to
last_to s (t ∷ rest) = last_to t rest

-- the first and the last vertex of a trail
abbrev pub tips : List HalfEdge → List Point
tips [] = []
tips (s ∷ rest) = s.from ∷ last_to s rest ∷ []

abbrev pub tips_of : List (List HalfEdge) → List Point
tips_of [] = []
tips_of (trail ∷ trails) = tips trail ++ tips_of trails

module _ (edges : List Edge) where
  -- an edge joins the ends of a half-edge
  to_joined : (s : HalfEdge) → IsHalfEdge edges s → SameComponent edges s.to s.from
  to_joined s is = on (twin_is_half_edge edges s is) here

  -- all of a trail lies in one component
  pub trail_joined : (s : HalfEdge) (rest : List HalfEdge) → IsTrail edges (s ∷ rest) → (h : HalfEdge) → Contains (s ∷ rest) h →
      IsHalfEdge edges h × SameComponent edges h.from s.from
  trail_joined s [] is h c = elim (Contains-cases s h [] c) [
    | inl e ↦ (subst (IsHalfEdge edges) e is, subst (λ (k : HalfEdge). SameComponent edges k.from s.from) e here)
    | inr m ↦ absurd (Contains-none h m)
  ]
  trail_joined s (t ∷ rest) is h c = elim (Contains-cases s h (t ∷ rest) c) [
    | inl e ↦ (subst (IsHalfEdge edges) e is.0, subst (λ (k : HalfEdge). SameComponent edges k.from s.from) e here)
    | inr m ↦
        let later = trail_joined t rest is.2 h m in
        (later.0, Walk-then later.1 (subst (λ u. SameComponent edges u s.from) is.1 (to_joined s is.0)))
  ]

  last_joined : (s : HalfEdge) (rest : List HalfEdge) → IsTrail edges (s ∷ rest) → SameComponent edges (last_to s rest) s.from
  last_joined s [] is = to_joined s is
  last_joined s (t ∷ rest) is = Walk-then (last_joined t rest is.2) (subst (λ u. SameComponent edges u s.from) is.1 (to_joined s is.0))

  pub trail_sides : (trail : List HalfEdge) → IsTrail edges trail → (h : HalfEdge) → Contains trail h → IsHalfEdge edges h
  trail_sides [] is h c = absurd is
  trail_sides (s ∷ rest) is h c = (trail_joined s rest is h c).0

  -- a trail whose first vertex lies in a component lies in it
  trail_in : (mark : Point) (s : HalfEdge) (rest : List HalfEdge) → IsTrail edges (s ∷ rest) → SameComponent edges s.from mark →
      All (IsIn edges mark) (s ∷ rest)
  trail_in mark s rest is at =
      All-from_contains (IsIn edges mark) (s ∷ rest) (λ h c. let r = trail_joined s rest is h c in (r.0, Walk-then r.1 at))

  -- and one of which a half-edge lies in it
  pub whole_trail : (mark : Point) (trail : List HalfEdge) → IsTrail edges trail → (h : HalfEdge) → Contains trail h → IsIn edges mark h → All (IsIn edges mark) trail
  whole_trail mark [] is h c inside = absurd is
  whole_trail mark (s ∷ rest) is h c inside = trail_in mark s rest is (Walk-then (Walk-back (trail_joined s rest is h c).1) inside.1)

  -- and one of which a tip does
  pub tip_in : (mark v : Point) (trail : List HalfEdge) → IsTrail edges trail → SameComponent edges v mark → Contains (tips trail) v → All (IsIn edges mark) trail
  tip_in mark v [] is at c = absurd is
  tip_in mark v (s ∷ rest) is at c = elim (Contains-cases s.from v (last_to s rest ∷ []) c) [
    | inl e ↦ trail_in mark s rest is (subst (λ u. SameComponent edges u mark) (sym e) at)
    | inr l ↦ elim (Contains-cases (last_to s rest) v [] l) [
      | inl e ↦ trail_in mark s rest is (Walk-then (Walk-back (last_joined s rest is)) (subst (λ u. SameComponent edges u mark) (sym e) at))
      | inr m ↦ absurd (Contains-none v m)
    ]
  ]

  -- a trail has an even number of ends at v, once its first and its last vertex are counted once more
  trail_ends : (v : Point) (s : HalfEdge) (rest : List HalfEdge) → IsTrail edges (s ∷ rest) →
      (ends v (s ∷ rest) + (same s.from v + same (last_to s rest) v)) % 2 ≡ 0
  trail_ends v s [] is = omega arith
  trail_ends v s (t ∷ rest) is =
      let later = trail_ends v t rest is.2 in
      let next : same s.to v ≡ same t.from v = ap (λ u. same u v) is.1 in
      omega (arith, later, next)

  -- so a trail with an odd number of ends at v begins or ends there
  odd_trail : (v : Point) (trail : List HalfEdge) → IsTrail edges trail → ends v trail % 2 ≡ 1 → Contains (tips trail) v
  odd_trail v [] is odd = absurd is
  odd_trail v (s ∷ rest) is odd =
      let even = trail_ends v s rest is in
      elim (same_tells s.from v) [
        | inl a ↦ subst (Contains (tips (s ∷ rest))) a.0 (Contains-head s.from (last_to s rest ∷ []))
        | inr a ↦ elim (same_tells (last_to s rest) v) [
          | inl b ↦ subst (Contains (tips (s ∷ rest))) b.0 (Contains-later s.from (last_to s rest) (last_to s rest ∷ []) (Contains-head (last_to s rest) []))
          | inr b ↦ absurd (omega (arith, even, odd, a.1, b.1))
        ]
      ]

  -- and so does one of some trails that together have an odd number
  pub odd_trails : (v : Point) (trails : List (List HalfEdge)) → All (IsTrail edges) trails → ends v (joined trails) % 2 ≡ 1 →
      (trail : List HalfEdge) × Contains trails trail × Contains (tips trail) v
  odd_trails v [] are odd = absurd (omega (arith, odd))
  odd_trails v (trail ∷ trails) are odd =
      let sum : ends v (joined (trail ∷ trails)) ≡ ends v trail + ends v (joined trails) = ends-append trail (joined trails) in
      elim (parity (ends v trail)) [
        | inl even ↦
            let later = odd_trails v trails (All-tail (IsTrail edges) trail trails are) (omega (arith, sum, even, odd)) in
            (later.0, Contains-later trail later.0 trails later.1, later.2)
        | inr one ↦ (trail, Contains-head trail trails, odd_trail v trail (All-head (IsTrail edges) trail trails are) one)
      ]
    where
      ends-append : (xs ys : List HalfEdge) → ends v (xs ++ ys) ≡ ends v xs + ends v ys
      ends-append [] ys = omega arith
      ends-append (x ∷ xs) ys = let later = ends-append xs ys in omega (arith, later)

      parity : (n : ℕ) → (n % 2 ≡ 0) ⊎ (n % 2 ≡ 1)
      parity n = grind arith

pub tips_contain : (trails : List (List HalfEdge)) (trail : List HalfEdge) (v : Point) → Contains trails trail → Contains (tips trail) v → Contains (tips_of trails) v
tips_contain [] trail v c t = absurd (Contains-none trail c)
tips_contain (first ∷ trails) trail v c t = elim (Contains-cases first trail trails c) [
  | inl e ↦ Contains-append_left (tips first) (tips_of trails) v (subst (λ l. Contains (tips l) v) (sym e) t)
  | inr m ↦ Contains-append_right (tips first) (tips_of trails) v (tips_contain trails trail v m t)
]

-- a trail has two tips
pub tips_few : (trails : List (List HalfEdge)) → length (tips_of trails) ≤ 2 * length trails
tips_few [] = omega arith
tips_few ([] ∷ trails) = let later = tips_few trails in omega (arith, later)
tips_few ((s ∷ rest) ∷ trails) = let later = tips_few trails in omega (arith, later)
